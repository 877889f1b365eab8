use Rattle.std.proofs.Common.{◌+◌, arith, sym, ◌∙◌}
use Rattle.dap_transcript.proofs.SimpleRuns.{simple_more, simple_on}
use Rattle.dap_transcript.proofs.canonical.skip_simple.Goals as goal

pub returns-then-run-lt-LANES-clause-simple : goal.returns-then-run-lt-LANES-clause-simple
returns-then-run-lt-LANES-clause-simple c =
    let l = c.loop-at in
    simple_on c.args.text.now c.args.from l.at (l.at + c.simple_run-run.result) l.invariant.from
    (omega arith) l.invariant.simple c.simple_run-run.ensures.simple

pub loop-at-preserved : goal.loop-at-preserved
loop-at-preserved c =
    let l = c.loop-at in
    record {
      simple =
          simple_on c.args.text.now c.args.from l.at (l.at + c.simple_run-run.result)
          l.invariant.from (omega arith) l.invariant.simple c.simple_run-run.ensures.simple;
      from = omega arith;
    }

pub loop-at-2-preserved : goal.loop-at-2-preserved
loop-at-2-preserved c =
    let l = c.loop-at-2 in
    record {
      simple =
          simple_more c.args.text.now c.args.from l.at l.invariant.from c.loop-at-2-test.true
          l.invariant.simple (sym c.is_simple.ensures ∙ c.if-is_simple.true);
      from = omega arith;
    }
