use Rattle.std.proofs.Common.{◌∙◌, sym, subst}
use Rattle.std.proofs.lemmas.Result.{err_from_is_err_and}
use Rattle.dap_mask.specs.KeptRules.{mask_of}
use Rattle.dap_stored.specs.Sessions.{messages_of}
use Rattle.dap_rules.specs.ApplyingSteps.{IsRefusedInOrder}
use Rattle.dap_rules.proofs.Applied.{is_empty, not_made, some_are, text_applied, text_refused}
use Rattle.dap_rules.proofs.Applied.{text_unordered}
use Rattle.dap_rules.proofs.ordered_by_rules.text_in_order_by.Goals as goal

pub returns-in_err-session-clause-err : goal.returns-in_err-session-clause-err
returns-in_err-session-clause-err c =
    let because = err_from_is_err_and c.from_residual.result c.from_residual.ensures.1 in
    let mask = mask_of c.args.rules.now in
    rw (because.1, because.2)
    (not_made c.args.limits c.args.mode mask (some_are c.swaps.result.now mask.swaps c.swaps.ensures
    (sym c.is_empty.ensures ∙ c.if-is_empty.false)) c.args.recording.now _
    c.in_err-session.ensures.err)

pub returns-in-Ok-text_of_session-clause-ok : goal.returns-in-Ok-text_of_session-clause-ok
returns-in-Ok-text_of_session-clause-ok c =
    let mask = mask_of c.args.rules.now in
    text_applied c.args.limits c.args.mode mask
    (some_are c.swaps.result.now mask.swaps c.swaps.ensures
    (sym c.is_empty.ensures ∙ c.if-is_empty.false)) c.args.recording.now
    (messages_of c.in_ok-session.session) c.in_ok-session.ensures.ok _
    c.in-Ok-text_of_session.ensures.ok

pub returns-clause-err : goal.returns-clause-err
returns-clause-err c =
    let mask = mask_of c.args.rules.now in
    subst (IsRefusedInOrder c.args.limits c.args.mode mask c.args.recording.now)
    (sym c.order_refusal.ensures)
    (text_refused c.args.limits c.args.mode mask
    (some_are c.swaps.result.now mask.swaps c.swaps.ensures
    (sym c.is_empty.ensures ∙ c.if-is_empty.false)) c.args.recording.now
    (messages_of c.in_ok-session.session) c.in_ok-session.ensures.ok _
    c.in-Err-text_of_session.ensures.err)

pub returns-in-Ok-clause-ok : goal.returns-in-Ok-clause-ok
returns-in-Ok-clause-ok c =
    let mask = mask_of c.args.rules.now in
    text_unordered c.args.limits c.args.mode mask c.requires.none
    (sym c.swaps.ensures
    ∙ is_empty c.swaps.result.now (sym c.is_empty.ensures ∙ c.if-is_empty.true))
    c.args.recording.now _ c.in-Ok.ensures.ok
