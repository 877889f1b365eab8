use Rattle.std.proofs.Common.{◌≡◌, ℤ, ap, ◌∙◌, w64, to_z, of_z, arith}
use Rattle.std.proofs.lemmas.Int.{to_z-of_z}
use Rattle.dap_tree.specs.declared.side.Side.TheVariants.{Client, Adapter}
use Rattle.dap_session.specs.SessionState.{SessionState, request_numbered}
use Rattle.dap_session.proofs.AnsweredRequest.{asked_is}
use Rattle.dap_session.specs.EnvelopeView.{message_of}
use Rattle.dap_session.proofs.session.Session.asked_for.Goals as goal

pub returns-in-Client : goal.returns-in-Client
returns-in-Client g c =
    let n : to_z w64 (of_z w64 c.in-Some.number) ≡ c.in-Some.number = grind (arith, to_z-of_z) in
    c.find.ensures ∙ ap (λ (k : ℤ). request_numbered k c.self.inside.adapter) n
    ∙ asked_is c.args.self.now (message_of c.args.message.now) c.in-Some.number Client
    c.self.inside.adapter c.in-Some.ensures c.in-Client.ensures
    (ap (λ (k : SessionState). k.adapter) c.self.view_is)

pub returns-in-Adapter : goal.returns-in-Adapter
returns-in-Adapter g c =
    let n : to_z w64 (of_z w64 c.in-Some.number) ≡ c.in-Some.number = grind (arith, to_z-of_z) in
    c.find-in-Adapter.ensures ∙ ap (λ (k : ℤ). request_numbered k c.self.inside.client) n
    ∙ asked_is c.args.self.now (message_of c.args.message.now) c.in-Some.number Adapter
    c.self.inside.client c.in-Some.ensures c.in-Adapter.ensures
    (ap (λ (k : SessionState). k.client) c.self.view_is)
