use Rattle.std.proofs.Common.{◌≡◌, ℕ, ℤ, cond, Option, Some, None, refl, sym, ap, ◌∙◌, w64, to_z, of_z}
use Rattle.std.proofs.Common.{arith}
use Rattle.std.specs.Ordering.{int_eq}
use Rattle.std.proofs.Math.Bool.{and_comm}
use Rattle.std.proofs.lemmas.Int.{to_z-of_z}
use Rattle.dap_tree.specs.declared.side.Side.TheVariants.{Client}
use Rattle.dap_session.specs.EnvelopeView.{message_of}
use Rattle.dap_session.specs.Messages.{seq_of, is_request, is_from}
use Rattle.dap_order.specs.Requests.{places_found}
use Rattle.dap_order.proofs.RequestPlaces.{finds_no_request, finds_put_back, finds_new}
use Rattle.dap_order.proofs.requests.FirstRequests.add.Goals as goal

pub returns-in_ok-insert : goal.returns-in_ok-insert
returns-in_ok-insert g c = λ ms finds long.
    let k = c.seq_of-number.result in
    let n : to_z w64 (of_z w64 k) ≡ k = grind (arith, to_z-of_z) in
    let number = n ∙ c.seq_of-number.ensures in
    let old = places_found c.args.self.now in
    let first = c.in-Some.first in
    finds_put_back old (places_found (record { places = c.insert-in-Some.new.self })) ms
    (message_of c.args.message.now) first c.args.place
    (ap old (sym number) ∙ sym c.in_ok-first.ensures.old ∙ c.in-Some.is)
    (λ q. c.in_ok-insert.ensures.updates.0 q
    ∙ ap (λ (o : Option ℕ). cond (int_eq (to_z w64 (of_z w64 k)) q) (Some first) o)
    (c.in_ok-first.ensures.updates.0 q)
    ∙ ap (λ (z : ℤ). cond (int_eq z q) (Some first)
    (cond (int_eq z q) (Some c.args.place) (old q))) number) finds

pub returns-in_default : goal.returns-in_default
returns-in_default g c = λ ms finds long.
    let m = message_of c.args.message.now in
    let k = c.seq_of-number.result in
    let n : to_z w64 (of_z w64 k) ≡ k = grind (arith, to_z-of_z) in
    let number : to_z w64 (of_z w64 k) ≡ seq_of m = n ∙ c.seq_of-number.ensures in
    finds_new (places_found c.args.self.now)
    (places_found (record { places = c.insert.new.self })) ms m c.args.place
    (and_comm (is_request m) (is_from Client m) ∙ sym c.is_client_request.ensures
    ∙ c.if-is_client_request.true)
    (ap (places_found c.args.self.now) (sym number) ∙ sym c.in_ok-first.ensures.old
    ∙ c.in_default.is) long
    (λ q. c.in_ok-first.ensures.updates.0 q
    ∙ ap (λ (z : ℤ). cond (int_eq z q) (Some c.args.place) (places_found c.args.self.now q)) number)
    finds

pub returns-else-is_client_request : goal.returns-else-is_client_request
returns-else-is_client_request g c = λ ms finds long.
    let m = message_of c.args.message.now in
    finds_no_request (places_found c.args.self.now) ms m
    (and_comm (is_request m) (is_from Client m) ∙ sym c.is_client_request.ensures
    ∙ c.if-is_client_request.false) finds
