use Rattle.std.proofs.Common.{◌∙◌, refl, sym}
use Rattle.dap_tree.specs.View.{view}
use Rattle.dap_tree.proofs.Outcomes.{read_is_plain}
use Rattle.dap_message.specs.Message.{sent}
use Rattle.dap_rules.proofs.MaskedSessions.{added, added_after}
use Rattle.dap_rules.proofs.masked_session.MaskedSession.add_tree.Goals as goal

pub returns-then-is_some : goal.returns-then-is_some
returns-then-is_some c bytes read =
    added_after c.args.self.now c.args.self.now (c.args.side, bytes) c.args.ruled
    (sym c.is_some.ensures ∙ c.if-is_some.true) refl

pub typed-requires : goal.typed-requires
typed-requires c = read_is_plain c.requires.0 (view c.args.tree) c.requires.1

pub returns-in_ok-push-in-Ok : goal.returns-in_ok-push-in-Ok
returns-in_ok-push-in-Ok c bytes read =
    let was = c.args.self.now in
    let is = c.in-Ok.ensures.ok in
    added was (record was { messages = c.push_message.new.self; ruled = c.push.new.self })
    (c.args.side, bytes) c.args.ruled refl refl (sym c.is_some.ensures ∙ c.if-is_some.false) refl
    (sent c.in-Ok.message) c.in_ok-push_message-in-Ok.ensures.ok c.in_ok-push-in-Ok.ensures.items
    (is.0, (view c.args.tree, read, (is.1, is.2)))
