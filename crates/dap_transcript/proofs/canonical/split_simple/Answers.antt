use Rattle.std.proofs.Common.{◌+◌, ◌∷◌, ◌++◌, [], arith, ◌∙◌}
use Rattle.dap_transcript.proofs.SimpleRuns.{simple_start}
use Rattle.dap_transcript.proofs.ValueEnds.{divided}
use Rattle.dap_transcript.proofs.canonical.split_simple.Goals as goal

pub returns-then-text-end-eq34-clause-string : goal.returns-then-text-end-eq34-clause-string
returns-then-text-end-eq34-clause-string c s more is =
    let t = c.args.text.now in
    let end = c.skip_simple-end.result in
    let run = c.skip_simple-end.ensures in
    let start = simple_start t s more end is run.from run.simple c.if-end-text.true
    c.if-text-end-eq34.true in (
      c.split_at.ensures.front
          ∙ divided t (34 ∷ (s ++ 34 ∷ [])) more (end + 1) start.parts (omega arith) start.rest,
      c.split_at.ensures.back ∙ start.rest,
      start.simple,
    )
