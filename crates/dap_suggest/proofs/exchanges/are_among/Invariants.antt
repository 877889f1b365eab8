use Rattle.std.proofs.Common.{drop}
use Rattle.std.specs.List.{AllByRecursion, Contains}
use Rattle.dap_message.specs.SwapRules.{swaps_of}
use Rattle.dap_suggest.proofs.exchanges.are_among.Given as goal

-- All rules are among the first ones if the rest of them are.
abbrev pub invariant-loop-other : goal.invariant-loop-other
invariant-loop-other l =
    AllByRecursion (Contains (swaps_of l.swaps)) (swaps_of (drop l.other-index l.others))
    → AllByRecursion (Contains (swaps_of l.swaps)) (swaps_of l.others)
