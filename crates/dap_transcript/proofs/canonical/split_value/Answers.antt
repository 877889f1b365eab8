use Rattle.std.proofs.Common.{◌≡◌, drop, ◌∙◌}
use Rattle.dap_tree.specs.Json.{text_of}
use Rattle.dap_transcript.proofs.ValueEnds.{divided}
use Rattle.dap_transcript.proofs.canonical.split_value.Goals as goal

pub returns-in_err-end-clause-value : goal.returns-in_err-end-clause-value
returns-in_err-end-clause-value c d more is e =
    let rest = c.in_err-end.ensures.value d more is e in
    absurd (cc rest)

pub returns-clause-value : goal.returns-clause-value
returns-clause-value c d more is e =
    let left : drop c.in_ok-end.end c.args.text.now ≡ more =
    cc (c.in_ok-end.ensures.value d more is e) in (
      c.split_at.ensures.front
          ∙ divided c.args.text.now (text_of d) more c.in_ok-end.end is
          c.in_ok-end.ensures.within.1 left,
      c.split_at.ensures.back ∙ left,
    )
