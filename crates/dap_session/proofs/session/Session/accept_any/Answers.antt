use Rattle.std.proofs.Common.{◌≡◌, ◌++◌, [], ◌∷◌, sym, ap, ◌∙◌, refl, subst}
use Rattle.dap_message.specs.Message.{Sent}
use Rattle.dap_session.specs.EnvelopeView.{message_of}
use Rattle.dap_session.specs.SessionState.{SessionState, state_after}
use Rattle.dap_session.specs.KeptRules.{first_broken_in_state}
use Rattle.dap_session.specs.Representation.{Represents}
use Rattle.dap_session.proofs.SessionSteps.{judged_is, stands_push}
use Rattle.dap_session.proofs.session.Session.accept_any.Goals as goal

pub returns-in-Some-clause-says : goal.returns-in-Some-clause-says
returns-in-Some-clause-says g c =
    let sent = g.M.AnyMessage.sent in
    let is : message_of c.envelope_of.result ≡ sent c.args.message.now =
    ap sent c.envelope_of.ensures in
    λ ms s. (
      sym (judged_is c.args.self.now ms (sent c.args.message.now) s)
          ∙ ap (λ (m : Sent). first_broken_in_state c.args.self.now m) (sym is)
          ∙ sym c.in-Some.ensures,
      refl,
    )

pub returns-in-Ok-clause-says : goal.returns-in-Ok-clause-says
returns-in-Ok-clause-says g c =
    let sent = g.M.AnyMessage.sent in
    let is : message_of c.envelope_of.result ≡ sent c.args.message.now =
    ap sent c.envelope_of.ensures in
    let none = ap (λ (m : Sent). first_broken_in_state c.args.self.now m) (sym is)
    ∙ sym c.in_default.ensures in
    λ ms s. (
      sym (judged_is c.args.self.now ms (sent c.args.message.now) s) ∙ none,
      subst (λ (k : SessionState). Represents k (ms ++ (sent c.args.message.now) ∷ []))
          (sym (c.in-Ok.ensures.ok ∙ ap (λ (m : Sent). state_after c.args.self.now m) is))
          (stands_push c.args.self.now ms (sent c.args.message.now) s none),
    )

pub returns-in-Err-clause-in_rules : goal.returns-in-Err-clause-in_rules
returns-in-Err-clause-in_rules g c =
    let sent = g.M.AnyMessage.sent in
    let is : message_of c.envelope_of.result ≡ sent c.args.message.now =
    ap sent c.envelope_of.ensures in
    λ _ ms s. sym (judged_is c.args.self.now ms (sent c.args.message.now) s)
    ∙ ap (λ (m : Sent). first_broken_in_state c.args.self.now m) (sym is) ∙ sym c.in_default.ensures
