use Rattle.std.proofs.Common.{◌+◌, ◌-◌, length}
use Rattle.dap_compact.proofs.CompactingLoop.{Compacting}
use Rattle.dap_compact.proofs.compacting.compact_records.Given as goal

abbrev pub invariant-loop-out : goal.invariant-loop-out
invariant-loop-out g l =
    Compacting l.fn.limits g.R.Source l.fn.reader l.reader
    l.records l.out.items

abbrev pub decreases-loop-out : goal.decreases-loop-out
decreases-loop-out g l =
    (l.records.pieces.limit - l.records.pieces.taken) + length l.records.pieces.unread
