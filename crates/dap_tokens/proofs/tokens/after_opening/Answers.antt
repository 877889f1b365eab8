use Rattle.std.proofs.Common.{◌++◌, sym, ap, ◌∙◌, Some, None}
use Rattle.std.proofs.lemmas.Slice.Eq.{strip_prefix_is}
use Rattle.std.proofs.lemmas.Bool.Decides.{Decides-eqb}
use Rattle.dap_tokens.proofs.Openings.{no_label, blank}
use Rattle.dap_tokens.proofs.tokens.after_opening.Goals as goal

pub returns-in_err-text-2 : goal.returns-in_err-text-2
returns-in_err-text-2 c =
    let text = c.args.text.now in
    let label = c.args.label.now in
    let after = c.in_ok-text.text.now in
    let one = strip_prefix_is Decides-eqb text c.as_slice.result.now (Some c.in_ok-text.text)
    c.in_ok-text.ensures.cases in
    let two = strip_prefix_is Decides-eqb after c.as_bytes.result.now None
    c.in_err-text-2.ensures.cases in
    rw c.from_residual-in_err-text-2.ensures
    (no_label label text after (one ∙ ap (λ x. x ++ after) c.as_slice.ensures)
    (λ rest e. two rest (e ∙ ap (λ x. x ++ rest) (sym c.as_bytes.ensures.value))))

pub returns : goal.returns
returns c =
    let text = c.args.text.now in
    let label = c.args.label.now in
    let after = c.in_ok-text.text.now in
    let last = c.in_ok-text-2.text.now in
    let one = strip_prefix_is Decides-eqb text c.as_slice.result.now (Some c.in_ok-text.text)
    c.in_ok-text.ensures.cases in
    let two = strip_prefix_is Decides-eqb after c.as_bytes.result.now
    (Some c.in_ok-text-2.text) c.in_ok-text-2.ensures.cases in
    let three = strip_prefix_is Decides-eqb last c.as_slice-2.result.now c.strip_prefix-3.result
    c.strip_prefix-3.ensures.cases in
    blank label text after last c.as_slice-2.result.now c.strip_prefix-3.result
    c.as_slice-2.ensures (one ∙ ap (λ x. x ++ after) c.as_slice.ensures)
    (two ∙ ap (λ x. x ++ last) c.as_bytes.ensures.value) three
