use Rattle.std.proofs.Common.{◌∙◌, Some, refl, sym, subst}
use Rattle.dap_tree.specs.declared.side.Side.{Side}
use Rattle.dap_message.specs.Message.{IsTypedContent}
use Rattle.dap_flat_message.specs.FlatMessages.{flat_doc, flat_sent}
use Rattle.dap_rules.proofs.MaskedSessions.{added, added_after, stopped}
use Rattle.dap_rules.proofs.masked_session.MaskedSession.add_nodes.Goals as goal

pub returns-then-is_some : goal.returns-then-is_some
returns-then-is_some c bytes read =
    added_after c.args.self.now c.args.self.now (c.args.side, bytes) c.args.ruled
    (sym c.is_some.ensures ∙ c.if-is_some.true) refl

pub push-requires : goal.push-requires
push-requires c =
    let bytes = c.requires.0 in
    let is = c.in-Ok.ensures.ok bytes c.requires.1 in (
      bytes,
      subst (λ (side : Side). IsTypedContent side bytes (flat_doc c.in-Ok.message)) (sym is.0) is.1,
    )

pub returns-in_ok-push-in-Ok-2 : goal.returns-in_ok-push-in-Ok-2
returns-in_ok-push-in-Ok-2 c bytes read =
    let was = c.args.self.now in
    let is = c.in-Ok.ensures.ok bytes read in
    added was (record was { messages = c.push.new.self; ruled = c.push-in-Ok.new.self })
    (c.args.side, bytes) c.args.ruled refl refl (sym c.is_some.ensures ∙ c.if-is_some.false) refl
    (flat_sent c.in-Ok.message) c.in_ok-push-in-Ok.ensures.ok c.in_ok-push-in-Ok-2.ensures.items
    (is.0, is.1)

pub returns-in-Err-Message : goal.returns-in-Err-Message
returns-in-Err-Message c bytes read =
    let was = c.args.self.now in
    rw c.in-Err-Message.field-0-is
    (stopped was (record was { fault = Some c.in-Err-Message.fault }) (c.args.side, bytes)
    c.args.ruled refl refl (sym c.is_some.ensures ∙ c.if-is_some.false) c.in-Err-Message.fault refl
    refl refl (rw c.in-Err-Message.field-0-is at c.in-Err-Message.ensures.err bytes read))
