use Rattle.std.proofs.Common.{◌≡◌, sym, ap, ◌∙◌, ℤ, Option, ◌&&◌, w64, to_z, of_z, arith}
use Rattle.std.specs.Option.{option_copied}
use Rattle.std.proofs.lemmas.Bool.{and_left, and_parts, and_right}
use Rattle.std.proofs.lemmas.Int.{to_z-of_z}
use Rattle.dap_tree.specs.declared.side.Side.TheVariants.{Adapter}
use Rattle.dap_session.specs.EnvelopeView.{message_of}
use Rattle.dap_session.specs.Messages.{is_response, is_from, is_number, request_seq_of}
use Rattle.dap_order.specs.Requests.{places_found}
use Rattle.dap_order.proofs.RequestPlaces.{no_request, request_found}
use Rattle.dap_order.proofs.requests.FirstRequests.answered.Goals as goal

pub returns-then-not-is_adapter_response : goal.returns-then-not-is_adapter_response
returns-then-not-is_adapter_response g c ms finds =
    let m = message_of c.args.message.now in
    sym (no_request ms m (λ n.
    and_left (is_response m && is_from Adapter m) (is_number (request_seq_of m) n)
    (sym c.is_adapter_response.ensures ∙ c.if-not-is_adapter_response.true)))

pub returns-in-Some : goal.returns-in-Some
returns-in-Some g c ms finds =
    let m = message_of c.args.message.now in
    let n : to_z w64 (of_z w64 c.in-Some.number) ≡ c.in-Some.number = grind (arith, to_z-of_z) in
    let both = and_parts (is_response m) (is_from Adapter m)
    (sym c.is_adapter_response.ensures ∙ c.if-not-is_adapter_response.false) in
    let got : option_copied c.get.result ≡ places_found c.args.self.now c.in-Some.number =
    rw n at c.get.ensures.value in
    c.copied.ensures ∙ got ∙ finds c.in-Some.number
    ∙ request_found ms m c.in-Some.number both.1 both.0
    (sym c.request_seq_of.ensures ∙ c.in-Some.is)

pub returns-in-None : goal.returns-in-None
returns-in-None g c ms finds =
    let m = message_of c.args.message.now in
    sym (no_request ms m (λ n.
    and_right (is_response m && is_from Adapter m) (is_number (request_seq_of m) n)
    (ap (λ (o : Option ℤ). is_number o n) (sym c.request_seq_of.ensures ∙ c.in-None.is))))
