use Rattle.std.proofs.Common.{IsTrue, sym, subst, arith, rules}
use Rattle.std.specs.List.{AllByRecursion, Contains}
use Rattle.std.proofs.lemmas.List.{drop_all}
use Rattle.dap_message.specs.SwapRules.{swap_of, swaps_of}
use Rattle.dap_suggest.proofs.NeededSwaps.{contains, one_more}
use Rattle.dap_suggest.proofs.exchanges.are_among.Goals as goal

pub loop-other-init : goal.loop-other-init
loop-other-init c = λ all. all

pub loop-other-preserved : goal.loop-other-preserved
loop-other-preserved c =
    let xs = c.args.others.now in
    let x = c.other-item.result in
    let found : IsTrue c.is_among.result = search rules in
    λ rest. c.loop-other.invariant
    (one_more (Contains (swaps_of c.args.swaps.now)) xs c.loop-other.other-index x (omega arith)
    c.other-item.is (contains c.args.swaps.now (swap_of x) c.is_among.result c.is_among.ensures
    found) rest)

pub returns : goal.returns
returns c =
    let xs = c.args.others.now in
    λ _. c.loop-other.invariant
    (subst (λ ys. AllByRecursion (Contains (swaps_of c.args.swaps.now)) (swaps_of ys))
    (sym (drop_all c.loop-other.other-index xs c.loop-other-test.false)) tt)
