use Rattle.std.proofs.Common.{◌∙◌, Option, ap, sym}
use Rattle.dap_profile.specs.declared.profile.Kind.{Kind}
use Rattle.dap_profile.specs.declared.profile.Kind.TheVariants.{Request, Response}
use Rattle.dap_session.specs.EnvelopeView.{message_of}
use Rattle.dap_session.specs.KeptRules.{first_of_told, request_rules, response_rules}
use Rattle.dap_session.specs.Messages.{same_kind}
use Rattle.dap_session.specs.declared.rule.Rule.{Rule}
use Rattle.dap_session.proofs.RulesByKind.{or_else, of_request, of_response}
use Rattle.dap_session.proofs.session.Session.broken_by.Goals as goal

pub returns-in-Some : goal.returns-in-Some
returns-in-Some g c =
    sym (of_request c.args.self.now (message_of c.args.message.now)
    (ap (λ (k : Kind). same_kind Request k) (sym c.in-Request.ensures))
    ∙ ap (λ (o : Option Rule). or_else o (first_of_told request_rules c.args.self.now
    (message_of c.args.message.now))) (sym c.in-Some.ensures))

pub returns-in-None : goal.returns-in-None
returns-in-None g c =
    c.broken_by_request.ensures
    ∙ sym (of_request c.args.self.now (message_of c.args.message.now)
    (ap (λ (k : Kind). same_kind Request k) (sym c.in-Request.ensures))
    ∙ ap (λ (o : Option Rule). or_else o (first_of_told request_rules c.args.self.now
    (message_of c.args.message.now))) (sym c.in-None.ensures))

pub returns-in-Some-broken_at_start : goal.returns-in-Some-broken_at_start
returns-in-Some-broken_at_start g c =
    sym (of_response c.args.self.now (message_of c.args.message.now)
    (ap (λ (k : Kind). same_kind Response k) (sym c.in-Response.ensures))
    ∙ ap (λ (o : Option Rule). or_else o (first_of_told response_rules c.args.self.now
    (message_of c.args.message.now))) (sym c.in-Some-broken_at_start.ensures))

pub returns-in-None-broken_at_start : goal.returns-in-None-broken_at_start
returns-in-None-broken_at_start g c =
    c.broken_by_response.ensures
    ∙ sym (of_response c.args.self.now (message_of c.args.message.now)
    (ap (λ (k : Kind). same_kind Response k) (sym c.in-Response.ensures))
    ∙ ap (λ (o : Option Rule). or_else o (first_of_told response_rules c.args.self.now
    (message_of c.args.message.now))) (sym c.in-None-broken_at_start.ensures))
