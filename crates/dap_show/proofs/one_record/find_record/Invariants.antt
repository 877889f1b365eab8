use Rattle.std.proofs.Common.{◌+◌, ◌-◌, length}
use Rattle.dap_show.proofs.Framing.{Sought}
use Rattle.dap_show.proofs.one_record.find_record.Given as goal

abbrev pub invariant-each : goal.invariant-each
invariant-each g l = Sought l.fn.limits g.R.Source l.fn.number l.fn.reader l.reader l.records

abbrev pub decreases-each : goal.decreases-each
decreases-each g l =
    (l.records.pieces.limit - l.records.pieces.taken) + length l.records.pieces.unread
