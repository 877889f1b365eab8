use Rattle.dap_transcript.proofs.RecordTexts.{brace_found, rest_of}
use Rattle.std.proofs.Common.{◌∷◌, arith}
use Rattle.dap_transcript.proofs.frames.from_brace.Goals as goal

pub returns-clause-brace : goal.returns-clause-brace
returns-clause-brace c front rest none is =
    let text = c.args.text.now in
    let at = c.in_ok-start.start in
    rest_of text front (123 ∷ rest) _ at is
    (brace_found text front rest at c.in_ok-start.ensures.place none is) (omega arith)
