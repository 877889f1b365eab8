use Rattle.std.proofs.Common.{◌≡◌, arith}
use Rattle.dap_transcript.proofs.WordTexts.{word_found}
use Rattle.dap_transcript.proofs.canonical.word_end.Goals as goal

pub returns-in_err-end-clause-value : goal.returns-in_err-end-clause-value
returns-in_err-end-clause-value c string nest d more is e =
    let t = c.args.text.now in
    let found = word_found t c.separator_at.result c.separator_at.ensures string nest d more is e in
    absurd (cc (found.is, c.in_err-end.was))

pub returns-then-end-eq0-clause-value : goal.returns-then-end-eq0-clause-value
returns-then-end-eq0-clause-value c string nest d more is e =
    let t = c.args.text.now in
    let found = word_found t c.separator_at.result c.separator_at.ensures string nest d more is e in
    let same : c.in_ok-end.end ≡ found.end = cc (found.is, c.in_ok-end.was) in
    absurd (omega (arith, same, found.some, c.if-end-eq0.true))

pub returns-clause-value : goal.returns-clause-value
returns-clause-value c string nest d more is e =
    let t = c.args.text.now in
    let found = word_found t c.separator_at.result c.separator_at.ensures string nest d more is e in
    let same : c.in_ok-end.end ≡ found.end = cc (found.is, c.in_ok-end.was) in
    cc (same, found.rest)
