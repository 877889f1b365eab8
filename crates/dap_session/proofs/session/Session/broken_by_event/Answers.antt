use Rattle.std.proofs.Common.{◌∙◌, sym}
use Rattle.dap_session.specs.EnvelopeView.{message_of}
use Rattle.dap_session.proofs.RulesByKind.{of_client_event, of_output, of_adapter_event}
use Rattle.dap_session.proofs.RulesByKind.{of_passed_event}
use Rattle.dap_session.proofs.session.Session.broken_by_event.Goals as goal

pub returns-then-is_from : goal.returns-then-is_from
returns-then-is_from g c =
    sym (of_client_event c.args.self.now (message_of c.args.message.now) c.requires
    (sym c.is_from.ensures ∙ c.if-is_from.true))

pub returns-then-is_output : goal.returns-then-is_output
returns-then-is_output g c =
    sym (of_output c.args.self.now (message_of c.args.message.now)
    (sym c.is_output.ensures ∙ c.if-is_output.true))

pub returns-else-is_output : goal.returns-else-is_output
returns-else-is_output g c =
    sym (of_adapter_event c.args.self.now (message_of c.args.message.now) c.requires
    (sym c.is_from.ensures ∙ c.if-is_from.false) (sym c.is_output.ensures ∙ c.if-is_output.false)
    ∙ sym c.broken_at_start.ensures ∙ c.in-Some.is)

pub returns-in-None : goal.returns-in-None
returns-in-None g c =
    sym (of_passed_event c.args.self.now (message_of c.args.message.now) c.requires
    (sym c.is_from.ensures ∙ c.if-is_from.false) (sym c.broken_at_start.ensures ∙ c.in-None.is))
