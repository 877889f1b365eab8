use Rattle.std.proofs.Common.{length}
use Rattle.dap_record.proofs.RawRunLoop.{RunGoesOn}
use Rattle.dap_record.proofs.tracing.record_run.Given as goal

abbrev pub invariant-loop-rest : goal.invariant-loop-rest
invariant-loop-rest l = RunGoesOn l.fn.recorder l.recorder l.fn.side l.fn.run l.rest

abbrev pub decreases-loop-rest : goal.decreases-loop-rest
decreases-loop-rest l = length l.rest
