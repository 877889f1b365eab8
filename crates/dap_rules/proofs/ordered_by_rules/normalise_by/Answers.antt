use Rattle.std.proofs.Common.{◌∙◌, refl, sym}
use Rattle.std.proofs.lemmas.Result.{IfErr-weaker, IfOk-weaker, err_from_is_err_and}
use Rattle.dap_message.specs.SwapRules.{swaps_of}
use Rattle.dap_recording.specs.Recording.{recording_text}
use Rattle.dap_rules.proofs.Applied.{is_empty, normalises, not_accepted, not_empty, refuses_normal}
use Rattle.dap_rules.proofs.ordered_by_rules.normalise_by.Goals as goal

pub returns-then-is_empty-clause-ok : goal.returns-then-is_empty-clause-ok
returns-then-is_empty-clause-ok c records fit holds =
    rw (is_empty c.args.swaps.now (sym c.is_empty.ensures ∙ c.if-is_empty.true))
    (IfOk-weaker c.normalise_masked.result _ _ (λ session is. (recording_text records, refl, is))
    (c.normalise_masked.ensures.ok records fit holds))

pub returns-then-is_empty-clause-err : goal.returns-then-is_empty-clause-err
returns-then-is_empty-clause-err c records fit holds =
    rw (is_empty c.args.swaps.now (sym c.is_empty.ensures ∙ c.if-is_empty.true))
    (c.normalise_masked.ensures.err records fit holds)

pub returns-in_err-check_masked-clause-err : goal.returns-in_err-check_masked-clause-err
returns-in_err-check_masked-clause-err c records fit holds =
    let because = err_from_is_err_and c.from_residual.result c.from_residual.ensures.1 in
    rw (because.1, because.2)
    (not_accepted c.args.limits c.args.mode (recording_text records) (swaps_of c.args.swaps.now) _
    (c.in_err-check_masked.ensures.err records fit holds))

pub returns-clause-ok : goal.returns-clause-ok
returns-clause-ok c records fit holds =
    IfOk-weaker c.normalise_in_order.result _ _
    (normalises c.args.limits c.args.mode (recording_text records) (swaps_of c.args.swaps.now)
    (not_empty c.args.swaps.now (sym c.is_empty.ensures ∙ c.if-is_empty.false)))
    (c.normalise_in_order.ensures.ok (recording_text records)
    (c.in_ok-check_masked.ensures.ok records fit holds))

pub returns-clause-err : goal.returns-clause-err
returns-clause-err c records fit holds =
    IfErr-weaker c.normalise_in_order.result _ _
    (refuses_normal c.args.limits c.args.mode (recording_text records) (swaps_of c.args.swaps.now)
    (not_empty c.args.swaps.now (sym c.is_empty.ensures ∙ c.if-is_empty.false)))
    (c.normalise_in_order.ensures.err (recording_text records)
    (c.in_ok-check_masked.ensures.ok records fit holds))
