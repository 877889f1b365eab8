-- The texts of the errors of transcripts, as they are written. Source: own.
use Rattle.std.specs.Prelude.{ℕ, List, codes}
use Rattle.dap_message.specs.MessageFaultText.{message_fault_text}
use Rattle.dap_transcript.specs.declared.fault.TranscriptCause.{TranscriptCause}
use Rattle.dap_transcript.specs.declared.fault.TranscriptCause.TheVariants as cause

abbrev pub transcript_cause_text : TranscriptCause → List ℕ
transcript_cause_text cause.BadLine = codes "BadLine"
transcript_cause_text cause.BadValue = codes "BadValue"
transcript_cause_text (cause.Message fault) = message_fault_text fault
transcript_cause_text cause.Differs = codes "Differs"
transcript_cause_text cause.TooLong = codes "TooLong"
transcript_cause_text cause.Memory = codes "Memory"
