use Rattle.std.proofs.Common.{List, map}
use Rattle.dap_message.specs.Message.{Sent}
use Rattle.dap_order.specs.Keys.{Key, conversation_key, IsKeyAt}
use Rattle.dap_order.specs.Waits.{IsEarlier}
use Rattle.dap_order.proofs.Walking.{AreBackTo, steps}
use Rattle.dap_order.proofs.waits.Earlier.back_to_response.Given as goal

abbrev pub invariant-loop-next : goal.invariant-loop-next
invariant-loop-next l =
    (ms : List Sent) (k : Key) → IsEarlier ms l.self → IsKeyAt (map conversation_key ms) k l.place
    → AreBackTo ms k l.place l.next l.waits.items

abbrev pub decreases-loop-next : goal.decreases-loop-next
decreases-loop-next l = steps l.next
