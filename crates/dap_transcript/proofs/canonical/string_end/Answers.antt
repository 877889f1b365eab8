use Rattle.std.proofs.Common.{◌≡◌, ◌+◌, false, drop, arith, ◌∙◌}
use Rattle.std.proofs.lemmas.Grind.{common_steps}
use Rattle.dap_transcript.specs.Canonical.{string_rest}
use Rattle.dap_transcript.proofs.SimpleRuns.{run_rest}
use Rattle.dap_transcript.proofs.StringRests.{rest_at_backslash}
use Rattle.dap_transcript.proofs.canonical.string_end.Goals as goal

pub loop-at-init : goal.loop-at-init
loop-at-init c =
    let run = c.skip_simple-at.ensures in
    record {
      rest = run_rest c.args.text.now c.args.from c.skip_simple-at.result run.from run.simple;
      from = run.from;
    }

pub loop-at-preserved-in-92 : goal.loop-at-preserved-in-92
loop-at-preserved-in-92 c =
    let t = c.args.text.now in
    let at = c.loop-at.at in
    let run = c.skip_simple-at-in-92.ensures in
    record {
      rest = c.loop-at.invariant.rest ∙ rest_at_backslash t at c.loop-at-test.true c.in-92.is
          ∙ run_rest t (at + 2) c.skip_simple-at-in-92.result run.from run.simple;
      from = omega arith;
    }

pub loop-at-preserved : goal.loop-at-preserved
loop-at-preserved c =
    let t = c.args.text.now in
    let at = c.loop-at.at in
    let run = c.skip_simple-at-in_default.ensures in
    let plain : string_rest false (drop at t) ≡ string_rest false (drop (at + 1) t) =
    grind (arith, common_steps) in
    record {
      rest = c.loop-at.invariant.rest ∙ plain
          ∙ run_rest t (at + 1) c.skip_simple-at-in_default.result run.from run.simple;
      from = omega arith;
    }
