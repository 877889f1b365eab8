use Rattle.std.proofs.Common.{◌∙◌, arith}
use Rattle.std.proofs.lemmas.List.{take_rest, length-drop}
use Rattle.dap_device.proofs.Runs.{appended_prefix, untouched_more}
use Rattle.dap_device.proofs.replacing.write_all.Goals as goal

pub loop-at-preserved : goal.loop-at-preserved
loop-at-preserved g c =
    let bytes = c.args.bytes.now in
    let before = c.loop-at.invariant in
    let took = rw (take_rest bytes c.loop-at.at) at c.in_ok-count.ensures in
    record {
      within = omega (arith, took.within, length-drop c.loop-at.at bytes);
      counted = omega (arith, took.counted, before.counted);
      step = took.step ∙ before.step;
      known = (λ k. before.known.0 (took.known.0 k), λ k. took.known.1 (before.known.1 k));
      written = λ k. appended_prefix _ _ bytes c.loop-at.at c.in_ok-count.count (before.written k)
          (took.appended (before.known.1 k));
      untouched = λ k. untouched_more g.F.Replaceable c.args.file.now c.loop-at.file
          c.write.new.self (before.untouched k) (took.target (before.known.1 k))
          (took.time (before.known.1 k));
    }
