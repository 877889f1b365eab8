use Rattle.std.proofs.Common.{ap, sym, ◌∙◌}
use Rattle.dap_tokens.specs.Values.{is_nothing}
use Rattle.dap_naming.proofs.Limits.{same_fault}
use Rattle.dap_naming.proofs.Writing.{few_token, full_token}
use Rattle.dap_naming.proofs.texts.name_token.Goals as goal

pub returns-in_err-number-clause-full : goal.returns-in_err-number-clause-full
returns-in_err-number-clause-full c =
    λ e. full_token c.args.form c.args.label.now c.args.numbers.now c.args.part.now
    c.deref-2.result.now (c.deref-2.ensures.value ∙ c.in_ok-value.ensures)
    (ap is_nothing (c.deref-2.ensures.value ∙ sym c.deref.ensures.value) ∙ sym c.is_nothing.ensures
    ∙ c.if-is_nothing.false)
    (c.number.ensures.full (same_fault c.number.result c.from_residual-in_err-number.result
    c.in_err-number.field-0.0 c.in_err-number.was c.from_residual-in_err-number.ensures.1 e))

pub returns-clause-few : goal.returns-clause-few
returns-clause-few c =
    few_token c.args.form c.args.label.now c.args.numbers.now c.args.part.now
    c.deref-2.result.now (c.deref-2.ensures.value ∙ c.in_ok-value.ensures)
    (ap is_nothing (c.deref-2.ensures.value ∙ sym c.deref.ensures.value) ∙ sym c.is_nothing.ensures
    ∙ c.if-is_nothing.false)
    c.in_ok-number.ensures.room
