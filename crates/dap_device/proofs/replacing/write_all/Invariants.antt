use Rattle.std.proofs.Common.{length, ◌-◌, ◌≡◌, ◌↔◌, ◌≤◌, Some, take}
use Rattle.dap_device.specs.Replacing.{IsUntouched}
use Rattle.dap_device.proofs.replacing.write_all.Given as goal

abbrev pub invariant-loop-at : goal.invariant-loop-at
invariant-loop-at g l =
    let file = g.F.Replaceable in
    record {
      within : l.at ≤ length l.bytes;
      counted : file.failures l.file ≡ file.failures l.fn.file;
      step : file.failed_at l.file ≡ file.failed_at l.fn.file;
      known : file.is_known l.file ↔ file.is_known l.fn.file;
      written : file.is_known l.fn.file → file.temporary l.file ≡ Some (take l.at l.bytes);
      untouched : file.is_known l.fn.file → IsUntouched file l.fn.file l.file;
    }

abbrev pub decreases-loop-at : goal.decreases-loop-at
decreases-loop-at g l = length l.bytes - l.at
