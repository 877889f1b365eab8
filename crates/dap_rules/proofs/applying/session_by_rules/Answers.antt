use Rattle.std.proofs.Common.{◌∙◌, sym, subst}
use Rattle.std.proofs.lemmas.Result.{IfErr-weaker}
use Rattle.dap_mask.specs.KeptRules.{mask_of}
use Rattle.dap_normalise.specs.Normalising.{RefusesBytes}
use Rattle.dap_rules.specs.Applying.{IsNotNormalised}
use Rattle.dap_rules.proofs.Declared.{none_are, some_are}
use Rattle.dap_rules.proofs.NamesApplied.{rejected_in_order, text_rejected}
use Rattle.dap_rules.proofs.applying.session_by_rules.Goals as goal

pub check_named-requires-clause-declared : goal.check_named-requires-clause-declared
check_named-requires-clause-declared c =
    some_are c.declared.result.now (mask_of c.args.rules.now).declared c.declared.ensures.same
    (sym c.is_empty.ensures ∙ c.if-is_empty.false)

pub returns-then-is_empty-clause-err : goal.returns-then-is_empty-clause-err
returns-then-is_empty-clause-err c =
    let mask = mask_of c.args.rules.now in
    IfErr-weaker c.session_in_order_by.result _ _
    (rejected_in_order c.args.limits c.args.mode mask c.args.recording.now
    (none_are c.declared.result.now mask.declared c.declared.ensures.same
    (sym c.is_empty.ensures ∙ c.if-is_empty.true)))
    c.session_in_order_by.ensures.err

pub returns-clause-err : goal.returns-clause-err
returns-clause-err c =
    let limits = c.args.limits in
    let mode = c.args.mode in
    let mask = mask_of c.args.rules.now in
    subst (IsNotNormalised limits mode mask c.args.recording.now) (sym c.order_refusal.ensures)
    (text_rejected limits mode mask c.args.recording.now c.in_ok-text.text.items
    c.in_ok-text.ensures.ok c.in-Err.refused
    (subst (λ bytes. RefusesBytes limits mode bytes c.in-Err.refused) c.as_slice.ensures.value
    c.in-Err.ensures.err))
