use mir.Val.{SFits, to_z}
use Rattle.std.specs.Int.{w128}
use Rattle.std.proofs.Common.{◌≡◌, option_map, pos, rules, ◌∙◌, ap, sym, subst}
use Rattle.std.proofs.lemmas.Int.{to_z-of_z}
use Rattle.std.specs.Fmt.{signed_decimal}
use Rattle.dap_naming.specs.Documents.{ids_of_whole, named_whole}
use Rattle.dap_naming.specs.Known.{ByTable, FitsLimit, ExceedsLimit}
use Rattle.dap_naming.proofs.Limits.{same_fault, fits_one, exceeds_one}
use Rattle.dap_naming.proofs.RuledTexts.{text_of_integer, whole_ids}
use Rattle.dap_naming.proofs.TableNames.{whole_by_table}
use Rattle.dap_naming.proofs.trees.named_whole.Goals as goal

pub returns-in_err-number-clause-full : goal.returns-in_err-number-clause-full
returns-in_err-number-clause-full c =
    let fits : SFits w128 c.args.value = search rules in
    λ e. subst (λ o. ExceedsLimit c.args.numbers.now (ids_of_whole o c.args.value))
    (sym (ap (option_map (λ l. l.now)) c.in-Some.is))
    (subst (ExceedsLimit c.args.numbers.now)
    (sym (whole_ids c.in-Some.label.now c.as_bytes-text.result.now c.args.value
    (c.as_bytes-text.ensures.value ∙ c.format.ensures.text
    ∙ ap signed_decimal (to_z-of_z w128 c.args.value fits) ∙ text_of_integer c.args.value)
    (sym c.is_nothing.ensures ∙ c.if-is_nothing.false)))
    (exceeds_one c.args.numbers.now c.in-Some.label.now c.as_bytes-text.result.now
    (c.number.ensures.full (same_fault c.number.result c.from_residual.result
    c.in_err-number.field-0.0 c.in_err-number.was c.from_residual.ensures.1 e))))

pub returns-clause-few : goal.returns-clause-few
returns-clause-few c =
    let fits : SFits w128 c.args.value = search rules in
    subst (λ o. FitsLimit c.args.numbers.now (ids_of_whole o c.args.value))
    (sym (ap (option_map (λ l. l.now)) c.in-Some.is))
    (subst (FitsLimit c.args.numbers.now)
    (sym (whole_ids c.in-Some.label.now c.as_bytes-text.result.now c.args.value
    (c.as_bytes-text.ensures.value ∙ c.format.ensures.text
    ∙ ap signed_decimal (to_z-of_z w128 c.args.value fits) ∙ text_of_integer c.args.value)
    (sym c.is_nothing.ensures ∙ c.if-is_nothing.false)))
    (fits_one c.args.numbers.now c.in-Some.label.now c.as_bytes-text.result.now
    c.in_ok-number.ensures.room))

pub returns-clause-table : goal.returns-clause-table
returns-clause-table c =
    let fits : SFits w128 c.args.value = search rules in
    let same : to_z w128 c.in_ok-number.number ≡ pos c.in_ok-number.number = search rules in
    subst (λ o. ByTable c.args.numbers.now c.number.new.self
    (λ f. to_z w128 c.in_ok-number.number ≡ named_whole o f c.args.value))
    (sym (ap (option_map (λ l. l.now)) c.in-Some.is))
    (whole_by_table c.args.numbers.now c.number.new.self c.in-Some.label.now
    c.as_bytes-text.result.now c.args.value _ c.in_ok-number.number
    (c.as_bytes-text.ensures.value ∙ c.format.ensures.text
    ∙ ap signed_decimal (to_z-of_z w128 c.args.value fits) ∙ text_of_integer c.args.value)
    (sym c.is_nothing.ensures ∙ c.if-is_nothing.false) same c.in_ok-number.ensures.held
    c.in_ok-number.ensures.keeps)
