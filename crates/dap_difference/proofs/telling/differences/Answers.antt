use Rattle.std.proofs.Common.{sym, subst}
use Rattle.dap_tree.specs.View.{view}
use Rattle.dap_difference.specs.Differences.{AreDifferences, PutInIsB}
use Rattle.dap_difference.specs.Telling.{differences}
use Rattle.dap_difference.proofs.PutIn.{are_differences, put_in_is_b}
use Rattle.dap_difference.proofs.Steps.{all_told}
use Rattle.dap_difference.proofs.telling.differences.Goals as goal

pub returns-clause-reported : goal.returns-clause-reported
returns-clause-reported c =
    all_told c.new-path.result.items c.new-found.result.items c.add.new.found.items
    (differences (view c.args.a.now) (view c.args.b.now)) c.new-path.ensures.items
    c.new-found.ensures.items c.in_ok-add.ensures.found

pub returns-clause-exactly : goal.returns-clause-exactly
returns-clause-exactly c a b =
    subst (AreDifferences (view c.args.a.now) (view c.args.b.now)) (sym (returns-clause-reported c))
    (are_differences (view c.args.a.now) (view c.args.b.now) a b)

pub returns-clause-put_in : goal.returns-clause-put_in
returns-clause-put_in c a b =
    subst (λ xs. PutInIsB xs (view c.args.a.now) (view c.args.b.now))
    (sym (returns-clause-reported c))
    (put_in_is_b (view c.args.a.now) (view c.args.b.now) a b)
