use Rattle.std.proofs.Common.{◌≡◌, ◌∙◌, List, ap, map, subst}
use Rattle.std.proofs.lemmas.Result.{IfOk-weaker}
use Rattle.dap_message.specs.Message.{Sent}
use Rattle.dap_message.specs.SwapRules.{swaps_of}
use Rattle.dap_order.specs.MessageOrder.{ordered}
use Rattle.dap_stored.specs.Sessions.{AreAt, messages_of, stored_sent}
use Rattle.dap_rules.proofs.ordering.places_in_order.Goals as goal

pub returns : goal.returns
returns c =
    let rules = swaps_of c.args.rules.now in
    let views : map stored_sent c.as_slice.result.now ≡ messages_of c.args.session.now =
    ap (map stored_sent) c.as_slice.ensures.value ∙ c.in_ok-messages.ensures.ok in
    IfOk-weaker c.put_in_order.result _ _
    (λ places at. subst (λ (ms : List Sent). AreAt ms places.items (ordered rules ms)) views at)
    c.put_in_order.ensures.order
