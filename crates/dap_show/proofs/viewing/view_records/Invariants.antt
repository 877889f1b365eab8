use Rattle.std.proofs.Common.{◌+◌, ◌-◌, length}
use Rattle.dap_show.proofs.ViewingLoop.{Viewed}
use Rattle.dap_show.proofs.viewing.view_records.Given as goal

abbrev pub invariant-each : goal.invariant-each
invariant-each g l =
    Viewed l.fn.view g.R.Source l.fn.reader l.reader
    l.records l.session l.lines.items l.first

abbrev pub decreases-each : goal.decreases-each
decreases-each g l =
    (l.records.pieces.limit - l.records.pieces.taken) + length l.records.pieces.unread
