use Rattle.std.proofs.Common.{None, ap, subst, ◌∙◌}
use Rattle.dap_mask.specs.Index.{AreRight, HasAsked, positions}
use Rattle.dap_mask.specs.ListedRules.{listed_changes}
use Rattle.dap_mask.specs.declared.index.KindRules.{KindRules}
use Rattle.dap_mask.proofs.Indexed.{index_made}
use Rattle.dap_mask.proofs.index.KindRules.new.Goals as goal

pub returns-clause-index : goal.returns-clause-index
returns-clause-index c =
    let made : KindRules = record { named = c.in_ok-named.named; any = c.in_ok-any.any } in
    let same = c.changes-rules.ensures in
    index_made c.args.kind (listed_changes c.args.list.now) made
    (subst (λ rs. AreRight c.args.kind rs made.named) same c.in_ok-named.ensures.right)
    (subst (λ rs. HasAsked c.args.kind rs made.named) same c.in_ok-named.ensures.asked)
    (c.in_ok-any.ensures.places ∙ ap (positions c.args.kind None) same)
