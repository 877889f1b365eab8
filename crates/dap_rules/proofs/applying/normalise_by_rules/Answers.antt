use Rattle.std.proofs.Common.{◌∙◌, sym, subst}
use Rattle.std.proofs.lemmas.Result.{IfErr-weaker, err_from_is_err_and}
use Rattle.dap_mask.specs.KeptRules.{mask_of}
use Rattle.dap_normalise.specs.Normalising.{RefusesBytes}
use Rattle.dap_rules.specs.Applying.{AppliesRules, IsNotNormalised}
use Rattle.dap_rules.specs.Applying.{NormalisesByRules}
use Rattle.dap_rules.proofs.Declared.{none_are, some_are}
use Rattle.dap_rules.proofs.NamesApplied.{not_normalised, rejected_in_order}
use Rattle.dap_rules.proofs.NamesApplied.{text_rejected}
use Rattle.dap_rules.proofs.applying.normalise_by_rules.Goals as goal

pub normalise_named-requires-clause-declared : goal.normalise_named-requires-clause-declared
normalise_named-requires-clause-declared c =
    some_are c.declared.result.now (mask_of c.args.rules.now).declared c.declared.ensures.same
    (sym c.is_empty.ensures ∙ c.if-is_empty.false)

pub returns-then-is_empty-clause-err : goal.returns-then-is_empty-clause-err
returns-then-is_empty-clause-err c =
    let mask = mask_of c.args.rules.now in
    IfErr-weaker c.normalise_in_order_by.result _ _
    (rejected_in_order c.args.limits c.args.mode mask c.args.recording.items
    (none_are c.declared.result.now mask.declared c.declared.ensures.same
    (sym c.is_empty.ensures ∙ c.if-is_empty.true)))
    c.normalise_in_order_by.ensures.err

pub returns-in-Some-clause-ok : goal.returns-in-Some-clause-ok
returns-in-Some-clause-ok c =
    subst (λ bytes. NormalisesByRules c.args.limits c.args.mode (mask_of c.args.rules.now) bytes
    c.in-Some.normal) c.as_slice.ensures.value c.in-Some.ensures

pub returns-in_err-text-clause-err : goal.returns-in_err-text-clause-err
returns-in_err-text-clause-err c =
    let because = err_from_is_err_and c.from_residual.result c.from_residual.ensures.1 in
    rw (because.1, because.2)
    (not_normalised c.args.limits c.args.mode (mask_of c.args.rules.now) c.args.recording.items _
    (rw c.as_slice-2.ensures.value at c.in_err-text.ensures.err))

pub returns-clause-err : goal.returns-clause-err
returns-clause-err c =
    let limits = c.args.limits in
    let mode = c.args.mode in
    let mask = mask_of c.args.rules.now in
    subst (IsNotNormalised limits mode mask c.args.recording.items) (sym c.order_refusal.ensures)
    (text_rejected limits mode mask c.args.recording.items c.in_ok-text.text.items
    (subst (λ bytes. AppliesRules limits mode mask bytes c.in_ok-text.text.items)
    c.as_slice-2.ensures.value c.in_ok-text.ensures.ok) c.in-Err.refused
    (subst (λ bytes. RefusesBytes limits mode bytes c.in-Err.refused) c.as_slice-3.ensures.value
    c.in-Err.ensures.err))
