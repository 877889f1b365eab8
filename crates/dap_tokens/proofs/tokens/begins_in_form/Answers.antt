use Rattle.std.proofs.Common.{◌≡◌, not, drop, sym, ap, ◌∙◌, refl, arith}
use Rattle.std.proofs.lemmas.List.{take_rest}
use Rattle.std.specs.Char.{is_ascii_hexdigit}
use Rattle.dap_words.specs.Runs.{begins_with}
use Rattle.dap_words.specs.Uuids.{nil_uuid, begins_in_form}
use Rattle.dap_tokens.proofs.FormSteps.{form_short, form_unfit, form_fit, form_ended}
use Rattle.dap_tokens.proofs.tokens.begins_in_form.Goals as goal

pub returns-then-i-bytes : goal.returns-then-i-bytes
returns-then-i-bytes c =
    sym (form_short nil_uuid c.args.bytes.now c.loop-i.i c.loop-i-test.true c.if-i-bytes.true)
    ∙ c.loop-i.invariant.rest

pub returns-then-not-fits_at : goal.returns-then-not-fits_at
returns-then-not-fits_at c =
    sym (form_unfit nil_uuid c.args.bytes.now c.loop-i.i c.loop-i-test.true (omega arith)
    (sym c.fits_at.ensures ∙ c.if-not-fits_at.true))
    ∙ c.loop-i.invariant.rest

pub loop-i-preserved : goal.loop-i-preserved
loop-i-preserved c = record {
  within = omega arith;
  rest = sym (form_fit nil_uuid c.args.bytes.now c.loop-i.i c.loop-i-test.true (omega arith)
      (sym c.fits_at.ensures ∙ c.if-not-fits_at.false))
      ∙ c.loop-i.invariant.rest;
}

pub returns : goal.returns
returns c =
    let bytes = c.args.bytes.now in
    let last : c.loop-i.i ≡ 36 = omega arith in
    ap not (c.begins_with_digit.ensures
    ∙ ap (begins_with is_ascii_hexdigit) (take_rest bytes 36))
    ∙ sym (form_ended nil_uuid bytes 36 refl)
    ∙ ap (λ n. begins_in_form (drop n nil_uuid) (drop n bytes)) (sym last)
    ∙ c.loop-i.invariant.rest
