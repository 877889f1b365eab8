use Rattle.std.proofs.Common.{◌≡◌, ℕ, ℤ, List, Option, true, false, Some, ap, sym, ◌∙◌, w64, to_z}
use Rattle.std.proofs.Common.{of_z, arith}
use Rattle.std.proofs.lemmas.Bool.{and_from}
use Rattle.std.proofs.lemmas.Int.{to_z-of_z}
use Rattle.dap_session.specs.Messages.{name_of, is_response, is_from, other}
use Rattle.dap_session.specs.SessionState.{Requests, with_answer, answered_in}
use Rattle.dap_session.proofs.Sides.{from_other, no_request}
use Rattle.dap_session.proofs.RequestsAfter.{after_response}
use Rattle.dap_session.specs.EnvelopeView.{message_of}
use Rattle.dap_session.proofs.requests.Requests.note.Goals as goal

pub ask-requires : goal.ask-requires
ask-requires g c =
    let n : to_z w64 (of_z w64 c.seq_of.result) ≡ c.seq_of.result = grind (arith, to_z-of_z) in
    grind (arith, n, c.requires.asks)

pub answer-requires : goal.answer-requires
answer-requires g c =
    let n : to_z w64 (of_z w64 c.in-Some.number) ≡ c.in-Some.number = grind (arith, to_z-of_z) in
    let away : is_from c.args.side (message_of c.args.message.now) ≡ false = grind arith in
    let there : is_from (other c.args.side) (message_of c.args.message.now) ≡ true =
    from_other c.args.side (message_of c.args.message.now) away in
    let response : is_response (message_of c.args.message.now) ≡ true = grind arith in
    rw n (c.requires.answers c.in-Some.number (and_from _ _ response there) (sym c.in-Some.ensures)
    ∙ ap (λ (t : List ℕ). Some (t, false)) (sym c.name_of-in-Some.ensures))

pub returns-in-Some-clause-ok : goal.returns-in-Some-clause-ok
returns-in-Some-clause-ok g c =
    let n : to_z w64 (of_z w64 c.in-Some.number) ≡ c.in-Some.number = grind (arith, to_z-of_z) in
    let away : is_from c.args.side (message_of c.args.message.now) ≡ false = grind arith in
    let there : is_from (other c.args.side) (message_of c.args.message.now) ≡ true =
    from_other c.args.side (message_of c.args.message.now) away in
    let response : is_response (message_of c.args.message.now) ≡ true = grind arith in
    let now : Requests = c.args.self.now in
    let name : List ℕ = name_of (message_of c.args.message.now) in
    c.answer.ensures ∙ ap (λ (k : ℤ). with_answer k c.name_of-in-Some.result.now now) n
    ∙ ap (λ (t : List ℕ). with_answer c.in-Some.number t now) c.name_of-in-Some.ensures
    ∙ ap (λ (o : Option ℤ). answered_in o name now) c.in-Some.ensures
    ∙ sym (after_response c.args.side c.args.self.now (message_of c.args.message.now)
    (and_from _ _ response there) (no_request (message_of c.args.message.now) response))
