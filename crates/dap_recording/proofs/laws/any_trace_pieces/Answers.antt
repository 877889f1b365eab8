use Rattle.dap_recording.proofs.RecordedUnique.{one_recorded}
use Rattle.dap_recording.proofs.RecorderRuns.{any_pieces}
use Rattle.dap_recording.proofs.laws.any_trace_pieces.Goals as goal

pub returns : goal.returns
returns c = record { one = one_recorded; recorded = any_pieces }
