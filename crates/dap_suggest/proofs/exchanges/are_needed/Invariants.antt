use Rattle.std.proofs.Common.{drop}
use Rattle.std.specs.List.{AllByRecursion}
use Rattle.dap_message.specs.SwapRules.{swaps_of}
use Rattle.dap_stored.specs.Sessions.{messages_of}
use Rattle.dap_suggest.specs.Exchanges.{IsNeeded}
use Rattle.dap_suggest.proofs.exchanges.are_needed.Given as goal

-- All rules are needed if the rest of them are.
abbrev pub invariant-loop-swap : goal.invariant-loop-swap
invariant-loop-swap l =
    let Needed =
    IsNeeded (swaps_of l.given) (messages_of l.sessions.a) (messages_of l.sessions.b) in
    AllByRecursion Needed (swaps_of (drop l.swap-index l.swaps))
    → AllByRecursion Needed (swaps_of l.swaps)
