use Rattle.std.proofs.Common.{◌≡◌, List, [], ◌∷◌, ◌++◌, map, length, take, sym, ap, ◌∙◌, subst, ◌+◌}
use Rattle.std.proofs.lemmas.List.{take_more, map-append, length-map}
use Rattle.dap_message.specs.Message.{Sent}
use Rattle.dap_session.specs.EnvelopeView.{message_of}
use Rattle.dap_order.specs.ByPlace.{places_answered}
use Rattle.dap_order.proofs.PlaceLabels.{places_answered_push}
use Rattle.dap_order.specs.MessageOrder.{message_answers}
use Rattle.dap_order.specs.Entries.{sent_by, request_by}
use Rattle.dap_order.specs.Requests.{Finds}
use Rattle.dap_order.proofs.entries.entries_of.Goals as goal

pub loop-message-preserved : goal.loop-message-preserved
loop-message-preserved g c =
    let sent = g.M.AnyMessage.sent in
    let i = c.loop-message.message-index in
    let all = c.args.messages.now in
    let ms = map sent (take i all) in
    let m = message_of c.envelope_of-message.result in
    let inv = c.loop-message.invariant in
    let item : m ≡ sent c.message-item.result =
    ap sent c.envelope_of-message.ensures in
    let next : map sent (take (i + 1) all) ≡ ms ++ m ∷ [] =
    ap (map sent) (take_more all i c.message-item.result c.loop-message-test.true
    ∙ ap (λ z. take i all ++ z ∷ []) (sym c.message-item.is))
    ∙ map-append sent (take i all) (c.message-item.result ∷ [])
    ∙ ap (λ (z : Sent). ms ++ z ∷ []) (sym item) in
    let entries = c.loop-message.entries in
    let long : length ms ≡ c.len.result =
    ap length (sym inv.messages) ∙ length-map entries.items sent_by ∙ sym entries.ok.0
    ∙ sym c.len.ensures in
    record {
      messages = ap (map sent_by) c.in_ok-push.ensures.items
          ∙ map-append sent_by c.loop-message.entries.items _
          ∙ ap (λ (zs : List Sent). zs ++ m ∷ []) inv.messages ∙ sym next;
      requests = ap (map request_by) c.in_ok-push.ensures.items
          ∙ map-append request_by c.loop-message.entries.items _
          ∙ ap (λ zs. zs ++ c.answered-request.result ∷ []) inv.requests
          ∙ ap (λ o. places_answered (message_answers []) ms ++ o ∷ [])
          (c.answered-request.ensures ms inv.finds)
          ∙ sym (places_answered_push (message_answers []) [] ms m)
          ∙ ap (places_answered (message_answers [])) (sym next);
      finds = subst (Finds c.add.new.self) (sym next)
          (c.in_ok-add.ensures ms inv.finds long);
    }
