use Rattle.std.proofs.Common.{◌-◌}
use Rattle.dap_record.proofs.PieceLoop.{Going}
use Rattle.dap_record.proofs.tracing.record_input.Given as goal

abbrev pub invariant-loop-stop : goal.invariant-loop-stop
invariant-loop-stop g l =
    Going g.R.Source l.fn.limits l.fn.reader l.reader l.pieces l.trace l.recorder l.last

abbrev pub decreases-loop-stop : goal.decreases-loop-stop
decreases-loop-stop g l = l.pieces.limit - l.pieces.taken
