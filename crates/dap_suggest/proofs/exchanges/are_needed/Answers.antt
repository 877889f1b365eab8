use Rattle.std.proofs.Common.{IsTrue, arith, rules}
use Rattle.dap_message.specs.SwapRules.{swap_of, swaps_of}
use Rattle.dap_stored.specs.Sessions.{messages_of}
use Rattle.dap_suggest.specs.Exchanges.{IsNeeded}
use Rattle.dap_suggest.proofs.NeededSwaps.{one_more}
use Rattle.dap_suggest.proofs.exchanges.are_needed.Goals as goal

pub loop-swap-init : goal.loop-swap-init
loop-swap-init c = λ all. all

pub loop-swap-preserved : goal.loop-swap-preserved
loop-swap-preserved c =
    let given = swaps_of c.args.given.now in
    let x = c.swap-item.result in
    let needed : IsTrue c.is_needed.result = search rules in
    let here : IsNeeded given (messages_of c.args.sessions.now.a)
    (messages_of c.args.sessions.now.b) (swap_of x) =
    rw (c.in_ok-a.ensures, c.in_ok-b.ensures) at (c.is_needed.ensures needed) in
    λ rest. c.loop-swap.invariant
    (one_more (IsNeeded given (messages_of c.args.sessions.now.a)
    (messages_of c.args.sessions.now.b)) c.args.swaps.now c.loop-swap.swap-index x (omega arith)
    c.swap-item.is here rest)
