use Rattle.std.proofs.Common.{ℕ, List, ◌++◌, ◌∙◌, ap, sym}
use Rattle.dap_transcript.proofs.LowBytes.{simple_written}
use Rattle.dap_transcript.proofs.lines.push_text.Goals as goal

pub returns-in-Some-clause-string : goal.returns-in-Some-clause-string
returns-in-Some-clause-string c t more is =
    let parts = c.in-Some.ensures.string t more is in
    let text = parts.0 ∙ sym (simple_written t parts.2) in (
      c.in_ok-extend_from_slice.ensures.items
          ∙ ap (λ (s : List ℕ). c.args.out.now.items ++ s) text,
      parts.1,
    )
