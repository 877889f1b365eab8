use Rattle.std.proofs.Common.{◌+◌, ◌-◌, length}
use Rattle.dap_join.proofs.Reading.{Going}
use Rattle.dap_join.proofs.joined.join_records.Given as goal

abbrev pub invariant-records : goal.invariant-records
invariant-records l =
    Going l.fn.limits l.fn.joining l.fn.recording l.reader l.records l.joiner

abbrev pub decreases-records : goal.decreases-records
decreases-records l =
    (l.records.pieces.limit - l.records.pieces.taken) + length l.records.pieces.unread
