use Rattle.std.proofs.Common.{◌∙◌, ℕ, List, true, false, ap, sym, refl}
use Rattle.std.specs.Str.{bytes_eq}
use Rattle.dap_session.specs.EnvelopeView.{message_of}
use Rattle.dap_session.proofs.RulesByKind.{unasked, asked}
use Rattle.dap_session.proofs.session.Session.broken_by_response.Goals as goal

pub returns-in-None : goal.returns-in-None
returns-in-None g c =
    sym (unasked c.args.self.now (message_of c.args.message.now) c.requires (sym c.in-None.ensures))

pub returns-in-Some-default-true : goal.returns-in-Some-default-true
returns-in-Some-default-true g c =
    sym (asked c.args.self.now (message_of c.args.message.now) c.in-Some-default-true.field-0-0.now
    c.in-Some-default-true.field-0-1 true _ c.requires (sym c.in-Some-default-true.ensures)
    c.in-Some-default-true.field-0-1-test refl)

pub returns-then-eq : goal.returns-then-eq
returns-then-eq g c =
    sym (asked c.args.self.now (message_of c.args.message.now) c.in-Some-default-false.command.now
    c.in-Some-default-false.field-0-1 false true c.requires (sym c.in-Some-default-false.ensures)
    c.in-Some-default-false.field-0-1-test
    (ap (λ (n : List ℕ). bytes_eq c.in-Some-default-false.command.now n) (sym c.name_of.ensures)
    ∙ sym c.eq.ensures ∙ c.if-eq.true))

pub returns-else-eq : goal.returns-else-eq
returns-else-eq g c =
    sym (asked c.args.self.now (message_of c.args.message.now) c.in-Some-default-false.command.now
    c.in-Some-default-false.field-0-1 false false c.requires (sym c.in-Some-default-false.ensures)
    c.in-Some-default-false.field-0-1-test
    (ap (λ (n : List ℕ). bytes_eq c.in-Some-default-false.command.now n) (sym c.name_of.ensures)
    ∙ sym c.eq.ensures ∙ c.if-eq.false))
