use Rattle.std.proofs.Common.{List}
use Rattle.dap_message.specs.Message.{Sent}
use Rattle.dap_order.specs.Waits.{AreConversations}
use Rattle.dap_order.proofs.LastResponses.{AreResponses}
use Rattle.dap_order.proofs.waits.last_responses.Given as goal

abbrev pub invariant-loop-place : goal.invariant-loop-place
invariant-loop-place l =
    (ms : List Sent) → AreConversations ms l.in_conversation.items l.are_responses
    → AreResponses ms l.place l.responses.items
