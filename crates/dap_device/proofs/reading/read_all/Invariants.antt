use Rattle.std.proofs.Common.{◌≤◌, ◌≡◌, ◌+◌, ◌-◌, length, take}
use Rattle.std.specs.Io.KnownBytes.{Consumes}
use Rattle.dap_device.proofs.reading.read_all.Given as goal

abbrev pub invariant-loop-count : goal.invariant-loop-count
invariant-loop-count g l =
    let left = g.R.Source.left in
    let given = g.R.Source.given in
    let failures = g.R.Source.failures in
    record {
      read : l.count ≤ length l.bytes.items;
      within : length l.bytes.items ≤ l.most;
      piece : length l.bytes.items ≤ l.count + 65536;
      came : Consumes (left l.fn.reader) (left l.reader) (take l.count l.bytes.items);
      counted : given l.reader ≡ given l.fn.reader + l.count;
      no_failure : failures l.reader ≡ failures l.fn.reader;
    }

abbrev pub decreases-loop-count : goal.decreases-loop-count
decreases-loop-count g l = l.most - l.count
