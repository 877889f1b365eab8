-- The names of the errors of recordings and traces, as they are written. Source: own.
use Rattle.std.specs.Prelude.{ℕ, List, ◌++◌, codes}
use Rattle.dap_frame.specs.FaultName.{fault_name}
use Rattle.dap_recording.specs.declared.record_fault.RecordCause.{RecordCause}
use Rattle.dap_recording.specs.declared.record_fault.RecordCause.TheVariants as record_cause
use Rattle.dap_recording.specs.declared.recorder_fault.RecorderFault.{RecorderFault}
use Rattle.dap_recording.specs.declared.recorder_fault.RecorderFault.TheVariants as recorder_fault
use Rattle.dap_recording.specs.declared.trace_fault.TraceCause.{TraceCause}
use Rattle.dap_recording.specs.declared.trace_fault.TraceCause.TheVariants as trace_cause
use Rattle.dap_tree.specs.Side.{side_text}

abbrev pub cause_name : RecordCause → List ℕ
cause_name record_cause.BadMarker = codes "BadMarker"
cause_name (record_cause.Frame fault) = fault_name fault
cause_name record_cause.NoLineEnd = codes "NoLineEnd"
cause_name record_cause.Cut = codes "Cut"
cause_name record_cause.Memory = codes "Memory"

abbrev pub trace_cause_name : TraceCause → List ℕ
trace_cause_name trace_cause.BadMarker = codes "BadMarker"
trace_cause_name trace_cause.BadCount = codes "BadCount"
trace_cause_name trace_cause.Cut = codes "Cut"

-- the side whose frame is rejected, and the reason
abbrev pub recorder_fault_text : RecorderFault → List ℕ
recorder_fault_text (recorder_fault.Frame side fault) =
    side_text side ++ codes " " ++ fault_name fault
recorder_fault_text recorder_fault.Memory = codes "Memory"
