use Rattle.std.proofs.Common.{◌∙◌, Option, Some, None, sym, subst}
use Rattle.std.specs.Prelude.{IfSome}
use Rattle.dap_mask.specs.KeptRules.{mask_of}
use Rattle.dap_message.specs.SwapRules.{swaps_of}
use Rattle.dap_stored.specs.Sessions.{messages_of}
use Rattle.dap_rules.specs.ApplyingSteps.{RecordsAreAccepted}
use Rattle.dap_rules.proofs.Applied.{is_empty, some_are}
use Rattle.dap_rules.proofs.NamedByRules.{made_again, made_once, made_unordered}
use Rattle.dap_rules.proofs.named_by_rules.named_in_order.Goals as goal

-- Two facts about the value, if there is one.
both : {T : Type 0} (o : Option T) {P Q R : T → Type 0} → ((x : T) → P x → Q x → R x)
    → IfSome o P → IfSome o Q → IfSome o R
both None f p q = p
both (Some x) f p q = f x p q

pub returns-in-None : goal.returns-in-None
returns-in-None c =
    made_unordered c.args.limits c.requires c.args.mode c.args.rules.now c.args.recording.now
    c.in-Ok.masked c.in-Ok.ensures.ok c.in-None.is
    (sym c.swaps.ensures
    ∙ is_empty c.swaps.result.now (sym c.is_empty.ensures ∙ c.if-is_empty.true))

pub returns-then-stays : goal.returns-then-stays
returns-then-stays c fits accepts =
    let mask = mask_of c.args.rules.now in
    made_once c.args.limits c.requires c.args.mode c.args.rules.now c.args.recording.now
    c.in-Ok.masked c.in-Ok.ensures.ok c.in-Ok-check_masked.ensures.ok
    (some_are c.swaps.result.now mask.swaps c.swaps.ensures
    (sym c.is_empty.ensures ∙ c.if-is_empty.false))
    (swaps_of c.swaps-2.result.now) c.swaps-2.ensures (messages_of c.in_ok-session.session)
    c.in_ok-session.ensures.order fits accepts (c.in_ok-session.ensures.ids c.if-stays.true)

pub returns : goal.returns
returns c =
    let mask = mask_of c.args.rules.now in
    let within = c.in-Ok-views_within.ensures.ok in
    both c.named_session.result
    (λ session names few fits accepts. made_again c.args.limits c.requires c.args.mode
    c.args.rules.now c.args.recording.now c.in-Ok.masked c.in-Ok.ensures.ok
    c.in-Ok-check_masked.ensures.ok
    (some_are c.swaps.result.now mask.swaps c.swaps.ensures
    (sym c.is_empty.ensures ∙ c.if-is_empty.false))
    (swaps_of c.swaps-2.result.now) c.swaps-2.ensures (messages_of c.in_ok-session.session)
    c.in_ok-session.ensures.order within.fits
    (subst (RecordsAreAccepted c.args.limits c.args.mode) within.same
    c.in-Ok-check_messages.ensures.ok) (messages_of session) names few)
    c.named_session.ensures.names c.named_session.ensures.few
