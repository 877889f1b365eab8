use Rattle.std.proofs.Common.{◌∙◌, true, false, ap, sym, refl}
use Rattle.dap_session.specs.EnvelopeView.{message_of}
use Rattle.dap_session.specs.SessionState.{SessionState}
use Rattle.dap_session.proofs.RulesByKind.{requested}
use Rattle.dap_session.proofs.session.Session.broken_by_request.Goals as goal

pub returns-then-is_late : goal.returns-then-is_late
returns-then-is_late g c =
    sym (requested c.args.self.now (message_of c.args.message.now) true _ _ _ _ c.requires
    (sym c.is_late.ensures ∙ c.if-is_late.true) refl refl refl refl)

pub returns-then-has_seq : goal.returns-then-has_seq
returns-then-has_seq g c =
    sym (requested c.args.self.now (message_of c.args.message.now) false true _ _ _ c.requires
    (sym c.is_late.ensures ∙ c.if-is_late.false) (sym c.has_seq.ensures ∙ c.if-has_seq.true)
    refl refl refl)

pub returns-then-not-is_configuration_done : goal.returns-then-not-is_configuration_done
returns-then-not-is_configuration_done g c =
    sym (requested c.args.self.now (message_of c.args.message.now) false false false _ _ c.requires
    (sym c.is_late.ensures ∙ c.if-is_late.false) (sym c.has_seq.ensures ∙ c.if-has_seq.false)
    (sym c.is_configuration_done.ensures ∙ c.if-not-is_configuration_done.true) refl refl)

pub returns-then-not-self : goal.returns-then-not-self
returns-then-not-self g c =
    sym (requested c.args.self.now (message_of c.args.message.now) false false true false _ c.requires
    (sym c.is_late.ensures ∙ c.if-is_late.false) (sym c.has_seq.ensures ∙ c.if-has_seq.false)
    (sym c.is_configuration_done.ensures ∙ c.if-not-is_configuration_done.false)
    (ap (λ (k : SessionState). k.initialized) (sym c.self.view_is) ∙ c.if-not-self.true) refl)

pub returns-then-self : goal.returns-then-self
returns-then-self g c =
    sym (requested c.args.self.now (message_of c.args.message.now) false false true true true
    c.requires (sym c.is_late.ensures ∙ c.if-is_late.false)
    (sym c.has_seq.ensures ∙ c.if-has_seq.false)
    (sym c.is_configuration_done.ensures ∙ c.if-not-is_configuration_done.false)
    (ap (λ (k : SessionState). k.initialized) (sym c.self.view_is) ∙ c.if-not-self.false)
    (ap (λ (k : SessionState). k.configured) (sym c.self.view_is) ∙ c.if-self.true))

pub returns-else-self : goal.returns-else-self
returns-else-self g c =
    sym (requested c.args.self.now (message_of c.args.message.now) false false true true false
    c.requires (sym c.is_late.ensures ∙ c.if-is_late.false)
    (sym c.has_seq.ensures ∙ c.if-has_seq.false)
    (sym c.is_configuration_done.ensures ∙ c.if-not-is_configuration_done.false)
    (ap (λ (k : SessionState). k.initialized) (sym c.self.view_is) ∙ c.if-not-self.false)
    (ap (λ (k : SessionState). k.configured) (sym c.self.view_is) ∙ c.if-self.false))
