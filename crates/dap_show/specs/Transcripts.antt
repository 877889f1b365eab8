-- What `show_transcript` writes. Source: own, over recordings, the rules of their sessions, and
-- transcripts.
use Rattle.std.specs.Prelude.{◌≡◌, List, ℕ, Result, Ok, Err}
use Rattle.dap_device.specs.declared.device.Sink.{Ghosts as Sink}
use Rattle.dap_device.specs.declared.device.Source.{Ghosts as Source}
use Rattle.dap_device.specs.{declared.reading.Stop.Stop, declared.reading.Stop.TheVariants.Failed}
use Rattle.dap_input.specs.{Engine.Answers, Refusals.IsRefused, declared.limits.Limits.Limits}
use Rattle.dap_input.specs.declared.refused.Refused.{Refused}
use Rattle.dap_input.specs.declared.refused.Refused.TheVariants.{ReadFault, Record}
use Rattle.dap_message.specs.Message.{Sent}
use Rattle.dap_normalise.specs.Accepting.{IsAccepted, accepting}
use Rattle.dap_recording.specs.declared.record_fault.RecordCause.TheVariants.{Cut}
use Rattle.dap_rename.specs.declared.mode.Mode.TheVariants.{Whole}
use Rattle.dap_transcript.specs.Transcript.{transcript}

-- The input is accepted, and this is the transcript of its messages.
abbrev pub IsTranscriptOf : Limits → List ℕ → List ℕ → Type 0
IsTranscriptOf limits input text =
    (messages : List Sent) × IsAccepted limits Whole input messages × (text ≡ transcript messages)

-- Outcome of `show_transcript`: the transcript of the input was written and flushed, or a prefix of
-- it was written and the writer failed, or the first error of the input is returned and nothing was
-- written.
abbrev pub ShowsTranscript : {U R W : Type 0} → Limits → Source R → Sink W → R → R → W → W
    → Result U Refused → Type 0
ShowsTranscript limits source sink =
    Answers source sink limits.input (IsTranscriptOf limits) (IsRefused (accepting limits Whole))

-- For private clauses: the text to be written for an input whose reader stopped for this reason,
-- given the text for the bytes read.
abbrev pub result_of_input : {T : Type 0} → Result T Refused → Stop → Result T Refused
result_of_input (Ok text) Failed = Err ReadFault
result_of_input (Err (Record n Cut)) Failed = Err ReadFault
result_of_input result stop = result
