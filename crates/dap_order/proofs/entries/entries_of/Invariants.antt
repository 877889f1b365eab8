use Rattle.std.proofs.Common.{◌≡◌, map, take, []}
use Rattle.dap_order.specs.ByPlace.{places_answered}
use Rattle.dap_order.specs.MessageOrder.{message_answers}
use Rattle.dap_order.specs.Entries.{sent_by, request_by}
use Rattle.dap_order.specs.Requests.{Finds}
use Rattle.dap_order.proofs.entries.entries_of.Given as goal

abbrev pub invariant-loop-message : goal.invariant-loop-message
invariant-loop-message g l =
    let ms = map g.M.AnyMessage.sent (take l.message-index l.messages) in
    record {
      messages : map sent_by l.entries.items ≡ ms;
      requests : map request_by l.entries.items ≡ places_answered (message_answers []) ms;
      finds : Finds l.first ms;
    }
