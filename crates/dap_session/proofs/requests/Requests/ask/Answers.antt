use Rattle.std.proofs.Common.{◌≡◌, ℕ, ◌+◌, List, false, ap, ◌∙◌, arith, w64}
use Rattle.std.proofs.lemmas.Int.{to_z-of_z}
use Rattle.dap_session.specs.declared.store.Request.{Request}
use Rattle.dap_session.specs.SessionState.{Requests, unanswered, with_noted, with_request}
use Rattle.dap_session.specs.Stored.{noted_of, stored}
use Rattle.dap_session.proofs.Slots.{unanswered-with_request}
use Rattle.dap_session.proofs.requests.Requests.ask.Goals as goal

pub returns-clause-ok : goal.returns-clause-ok
returns-clause-ok c =
    let new : Request = record { command = c.in_ok-command.command; answered = false } in
    let put : stored c.put.new.self
    ≡ with_noted c.args.number (noted_of new) (stored c.self.inside.store) =
    rw (to_z-of_z w64 c.args.number c.ranges.number) at c.in_ok-put.ensures.ok in
    put ∙ ap (λ (es : Requests). with_noted c.args.number (noted_of new) es) c.self.view_is
    ∙ ap (λ (t : List ℕ). with_request c.args.number t c.args.self.now) c.in_ok-command.ensures

pub invariant_of-self-2 : goal.invariant_of-self-2
invariant_of-self-2 c =
    let new : Request = record { command = c.in_ok-command.command; answered = false } in
    let put : stored c.put.new.self
    ≡ with_noted c.args.number (noted_of new) (stored c.self.inside.store) =
    rw (to_z-of_z w64 c.args.number c.ranges.number) at c.in_ok-put.ensures.ok in
    let is : stored c.put.new.self ≡ with_noted c.args.number (noted_of new) c.args.self.now =
    put ∙ ap (λ (es : Requests). with_noted c.args.number (noted_of new) es) c.self.view_is in
    let more : unanswered (stored c.put.new.self) ≡ unanswered c.args.self.now + 1 =
    ap unanswered is ∙ unanswered-with_request c.args.number _ c.args.self.now c.requires in
    let was : c.self.inside.open ≡ unanswered c.args.self.now =
    c.self.invariant ∙ ap unanswered c.self.view_is in
    omega (arith, more, was, c.in-Some.ensures)
