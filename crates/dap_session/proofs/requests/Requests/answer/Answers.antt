use Rattle.std.proofs.Common.{◌≡◌, Some, false, ap, ◌∙◌, arith, w64}
use Rattle.std.proofs.lemmas.Int.{to_z-of_z}
use Rattle.dap_session.specs.SessionState.{request_numbered, unanswered, with_answer}
use Rattle.dap_session.specs.Stored.{stored}
use Rattle.dap_session.proofs.Slots.{unanswered-with_answer}
use Rattle.dap_session.proofs.requests.Requests.answer.Goals as goal

pub overflow_sub-self : goal.overflow_sub-self
overflow_sub-self c =
    let was : c.self.inside.open ≡ unanswered c.args.self.now =
    c.self.invariant ∙ ap unanswered c.self.view_is in
    omega (
      arith,
      was,
      unanswered-with_answer c.args.number c.args.command.now c.args.command.now c.args.self.now
          c.requires,
    )

pub invariant_of-self : goal.invariant_of-self
invariant_of-self c =
    let asked : request_numbered c.args.number (stored c.self.inside.store)
    ≡ Some (c.args.command.now, false) =
    ap (request_numbered c.args.number) c.self.view_is ∙ c.requires in
    let put : stored c.answer.new.self
    ≡ with_answer c.args.number c.args.command.now (stored c.self.inside.store) =
    rw (to_z-of_z w64 c.args.number c.ranges.number) at c.answer.ensures in
    let now : unanswered (stored c.answer.new.self)
    ≡ unanswered (with_answer c.args.number c.args.command.now (stored c.self.inside.store)) =
    ap unanswered put in
    let fall = unanswered-with_answer c.args.number c.args.command.now c.args.command.now
    (stored c.self.inside.store) asked in
    omega (arith, c.self.invariant, now, fall)
