use Rattle.std.proofs.Common.{ap, sym, subst}
use Rattle.dap_tree.specs.declared.side.Side.TheVariants.{Client, Adapter}
use Rattle.dap_session.specs.SessionState.{SessionState, Requests}
use Rattle.dap_session.specs.RequestSteps.{FitsRequests}
use Rattle.dap_session.proofs.RuleTests.{may_follow}
use Rattle.dap_session.specs.EnvelopeView.{message_of}
use Rattle.dap_session.proofs.session.Session.keep.Goals as goal

pub note-requires : goal.note-requires
note-requires g c =
    subst (λ (es : Requests). FitsRequests Client es (message_of c.args.message.now))
    (sym (ap (λ (k : SessionState). k.client) c.self.view_is))
    (may_follow c.args.self.now (message_of c.args.message.now) Client c.requires)

pub note-requires-else-is_about_client : goal.note-requires-else-is_about_client
note-requires-else-is_about_client g c =
    subst (λ (es : Requests). FitsRequests Adapter es (message_of c.args.message.now))
    (sym (ap (λ (k : SessionState). k.adapter) c.self.view_is))
    (may_follow c.args.self.now (message_of c.args.message.now) Adapter c.requires)
