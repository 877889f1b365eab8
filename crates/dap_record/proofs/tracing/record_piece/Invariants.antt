use Rattle.std.proofs.Common.{ℕ, ◌≤◌, List, [], ◌++◌, length}
use Rattle.dap_input.specs.declared.limits.Limits.{Limits}
use Rattle.dap_input.specs.Limits.{AreSound}
use Rattle.dap_record.specs.TracingSteps.{Tracing}
use Rattle.dap_record.proofs.tracing.record_piece.Given as goal

abbrev pub invariant-loop-rest : goal.invariant-loop-rest
invariant-loop-rest l =
    (limits : Limits) (bytes : List ℕ) → AreSound limits
    → length (bytes ++ l.fn.piece) ≤ limits.input
    → Tracing limits bytes [] l.fn.trace l.fn.recorder l.fn.last
    → Tracing limits (bytes ++ l.fn.piece) l.rest l.trace l.recorder l.last

abbrev pub decreases-loop-rest : goal.decreases-loop-rest
decreases-loop-rest l = length l.rest
