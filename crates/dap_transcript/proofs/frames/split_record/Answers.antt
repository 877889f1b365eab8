use Rattle.std.proofs.Common.{◌∷◌, ◌++◌, ◌∙◌, ap, arith, get_or, length, refl, sym}
use Rattle.dap_transcript.proofs.RecordTexts.{middle, middle_no_brace, one_side, record_parts}
use Rattle.dap_transcript.proofs.RecordTexts.{rest_of, start}
use Rattle.dap_transcript.proofs.frames.split_record.Goals as goal

pub returns-clause-record : goal.returns-clause-record
returns-clause-record c side content more is =
    let text = c.args.text.now in
    let front = middle (length (123 ∷ content)) in
    let own = content ++ 10 ∷ more in
    let whole = is ∙ record_parts side (123 ∷ content) more in (
      one_side c.in_ok-side.side side (sym c.in_ok-side.ensures ∙ ap (λ t. get_or t 0 0) whole),
      c.in_ok-content.ensures.brace front own (middle_no_brace (length (123 ∷ content)))
          (rest_of text (start side) (front ++ 123 ∷ own) _ 17 whole refl (omega arith)),
    )
