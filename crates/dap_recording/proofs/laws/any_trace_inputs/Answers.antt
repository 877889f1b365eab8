use Rattle.dap_recording.proofs.TraceRuns.{any_inputs, fault_in_any_inputs}
use Rattle.dap_recording.proofs.laws.any_trace_inputs.Goals as goal

pub returns : goal.returns
returns c = record { runs = any_inputs; fault = fault_in_any_inputs }
