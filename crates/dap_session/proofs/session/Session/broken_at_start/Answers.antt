use Rattle.std.proofs.Common.{◌≡◌, ◌∙◌, ◌&&◌, true, false, ap, sym}
use Rattle.std.proofs.lemmas.Bool.{and_from, and_left}
use Rattle.dap_tree.specs.declared.side.Side.TheVariants.{Adapter}
use Rattle.dap_session.specs.EnvelopeView.{message_of}
use Rattle.dap_session.specs.SessionState.{SessionState}
use Rattle.dap_session.specs.KeptRules.{is_waiting, is_unanswered}
use Rattle.dap_session.specs.Messages.{is_from, is_response}
use Rattle.dap_session.proofs.RulesByKind.{waiting, unanswered, answered, and_second}
use Rattle.dap_session.proofs.session.Session.broken_at_start.Goals as goal
use Rattle.dap_session.proofs.session.Session.broken_at_start.Goals.{else-is_from-via-then-is_from+else-is_response, else-is_from-via-else-is_from}

pub returns-then-is_client_initialize : goal.returns-then-is_client_initialize
returns-then-is_client_initialize g c =
    sym (waiting c.args.self.now (message_of c.args.message.now) true
    (ap (λ (k : SessionState). is_waiting k.phase) (sym c.self.view_is) ∙ sym c.is_waiting.ensures
    ∙ c.if-is_waiting.true)
    (sym c.is_client_initialize.ensures ∙ c.if-is_client_initialize.true))

pub returns-else-is_client_initialize : goal.returns-else-is_client_initialize
returns-else-is_client_initialize g c =
    sym (waiting c.args.self.now (message_of c.args.message.now) false
    (ap (λ (k : SessionState). is_waiting k.phase) (sym c.self.view_is) ∙ sym c.is_waiting.ensures
    ∙ c.if-is_waiting.true)
    (sym c.is_client_initialize.ensures ∙ c.if-is_client_initialize.false))

pub returns-then-is_response : goal.returns-then-is_response
returns-then-is_response g c =
    sym (unanswered c.args.self.now (message_of c.args.message.now) true
    (ap (λ (k : SessionState). is_waiting k.phase) (sym c.self.view_is) ∙ sym c.is_waiting.ensures
    ∙ c.if-is_waiting.false)
    (ap (λ (k : SessionState). is_unanswered k.phase) (sym c.self.view_is) ∙ sym c.is_asked.ensures
    ∙ c.if-is_asked.true)
    (and_from _ _ (sym c.is_from.ensures ∙ c.if-is_from.true)
    (sym c.is_response.ensures ∙ c.if-is_response.true)))

pub returns-else-is_from : goal.returns-else-is_from
returns-else-is_from g c =
    let other : is_from Adapter (message_of c.args.message.now)
    && is_response (message_of c.args.message.now) ≡ false =
    elim c.else-is_from.branch [
      | else-is_from-via-then-is_from+else-is_response w ↦
          and_second (is_from Adapter (message_of c.args.message.now)) _
          (sym w.is_response.ensures ∙ w.if-is_response.false)
      | else-is_from-via-else-is_from w ↦
          and_left _ (is_response (message_of c.args.message.now))
          (sym c.is_from.ensures ∙ w.if-is_from.false)
    ] in
    sym (unanswered c.args.self.now (message_of c.args.message.now) false
    (ap (λ (k : SessionState). is_waiting k.phase) (sym c.self.view_is) ∙ sym c.is_waiting.ensures
    ∙ c.if-is_waiting.false)
    (ap (λ (k : SessionState). is_unanswered k.phase) (sym c.self.view_is) ∙ sym c.is_asked.ensures
    ∙ c.if-is_asked.true) other)

pub returns-then-is_initialize : goal.returns-then-is_initialize
returns-then-is_initialize g c =
    sym (answered c.args.self.now (message_of c.args.message.now) true
    (ap (λ (k : SessionState). is_waiting k.phase) (sym c.self.view_is) ∙ sym c.is_waiting.ensures
    ∙ c.if-is_waiting.false)
    (ap (λ (k : SessionState). is_unanswered k.phase) (sym c.self.view_is) ∙ sym c.is_asked.ensures
    ∙ c.if-is_asked.false)
    (sym c.is_initialize.ensures ∙ c.if-is_initialize.true))

pub returns-else-is_initialize : goal.returns-else-is_initialize
returns-else-is_initialize g c =
    sym (answered c.args.self.now (message_of c.args.message.now) false
    (ap (λ (k : SessionState). is_waiting k.phase) (sym c.self.view_is) ∙ sym c.is_waiting.ensures
    ∙ c.if-is_waiting.false)
    (ap (λ (k : SessionState). is_unanswered k.phase) (sym c.self.view_is) ∙ sym c.is_asked.ensures
    ∙ c.if-is_asked.false)
    (sym c.is_initialize.ensures ∙ c.if-is_initialize.false))
