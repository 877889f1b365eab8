use Rattle.std.proofs.Common.{◌+◌, ◌-◌, length}
use Rattle.dap_record.proofs.PieceLoop.{Dropping}
use Rattle.dap_record.proofs.tracing.drop_rest.Given as goal

abbrev pub invariant-loop-pieces : goal.invariant-loop-pieces
invariant-loop-pieces g l = Dropping g.R.Source l.fn.pieces l.pieces l.fn.reader l.reader

abbrev pub decreases-loop-pieces : goal.decreases-loop-pieces
decreases-loop-pieces g l = (l.pieces.limit - l.pieces.taken) + length l.pieces.unread
