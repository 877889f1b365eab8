use Rattle.std.proofs.Common.{length, ◌-◌, ◌≡◌, ◌≤◌, take}
use Rattle.std.specs.Io.KnownBytes.{Appends}
use Rattle.dap_device.specs.Device.{AwaitFlush}
use Rattle.dap_device.proofs.writing.write_all.Given as goal

abbrev pub invariant-loop-at : goal.invariant-loop-at
invariant-loop-at g l =
    let sink = g.W.Sink in
    record {
      within : l.at ≤ length l.bytes;
      appended : Appends (sink.out l.fn.writer) (sink.out l.writer) (take l.at l.bytes);
      awaits : AwaitFlush sink.unflushed l.fn.writer l.writer l.at;
      no_failure : sink.failures l.writer ≡ sink.failures l.fn.writer;
    }

abbrev pub decreases-loop-at : goal.decreases-loop-at
decreases-loop-at g l = length l.bytes - l.at
