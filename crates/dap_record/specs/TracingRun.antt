-- What `record` returns, and what it has then read and written. Source: own.
use Rattle.std.specs.Prelude.{◌≡◌, ◌⊎◌, ℕ, List, Result, Ok, Err}
use Rattle.dap_device.specs.declared.device.Sink.{Ghosts as Sink}
use Rattle.dap_device.specs.declared.device.Source.{Ghosts as Source}
use Rattle.dap_recording.specs.Recording.{recording_text}
use Rattle.dap_tree.specs.declared.side.Side.{Side}
use Rattle.dap_input.specs.{declared.limits.Limits.Limits, declared.refused.Refused.Refused}
use Rattle.dap_input.specs.declared.refused.Refused.TheVariants.{ReadFault, WriteFault, Memory}
use Rattle.dap_device.specs.declared.reading.Stop.{Stop}
use Rattle.dap_device.specs.declared.reading.Stop.TheVariants.{End, Failed}
use Rattle.dap_device.specs.{Written.{AllSent, PrefixWritten}, Reading.HasReadInput}
use Rattle.dap_record.specs.Tracing.{IsRecordedAs, IsTraceRefused, IsOfEnd, TakesMemory}

-- The bytes received contain no error other than being incomplete.
abbrev pub IsNotRefused : Limits → List ℕ → List (Side × List ℕ) → Type 0
IsNotRefused limits bytes messages = IsRecordedAs limits bytes messages
    ⊎ ((refused : Refused) × IsOfEnd refused × IsTraceRefused limits bytes refused messages)

-- Result and recorded messages if these bytes were received and no more follow for the reason
-- `stop`. `Ok`: the trace is recorded. `ReadFault`: the reader failed, and the bytes contain no
-- error other than being incomplete. Any other error: the trace is rejected; it is rejected as
-- incomplete only if the reader reached its end.
abbrev pub JudgesTrace : {U : Type 0} → Limits → List ℕ → Stop → Result U Refused
    → List (Side × List ℕ) → Type 0
JudgesTrace limits bytes stop (Ok done) messages = (stop ≡ End) × IsRecordedAs limits bytes messages
JudgesTrace limits bytes stop (Err ReadFault) messages = (stop ≡ Failed)
    × IsNotRefused limits bytes messages
JudgesTrace limits bytes stop (Err WriteFault) messages = ⊥
JudgesTrace limits bytes stop (Err Memory) messages = ⊥
JudgesTrace limits bytes stop (Err refused) messages = IsTraceRefused limits bytes refused messages
    × (IsOfEnd refused → stop ≡ End)

module _ {R W : Type 0} (source : Source R) (sink : Sink W) (limits : Limits) where
  -- This is the result for the bytes received from the reader, and these are the messages to be
  -- written.
  pub record HasJudgedTrace {U : Type 0} (old new : R) (outcome : Result U Refused) : Type 0 where
    pub bytes : List ℕ
    pub stop : Stop
    pub came : HasReadInput source old new limits.input bytes stop
    pub messages : List (Side × List ℕ)
    pub judges : JudgesTrace limits bytes stop outcome messages

  -- The records of the messages were written and flushed, whether the trace is recorded or
  -- rejected.
  pub record HasWrittenRecords {U : Type 0} (old new : R) (before after : W)
      (outcome : Result U Refused) : Type 0 where
    pub judged : HasJudgedTrace old new outcome
    pub written : AllSent sink before after (recording_text judged.messages)

  -- A prefix of the records was written, possibly all of them, and the writer failed.
  pub record HasNotWrittenRecords (U : Type 0) (old new : R) (before after : W) : Type 0 where
    pub outcome : Result U Refused
    pub judged : HasJudgedTrace old new outcome
    pub written : PrefixWritten sink before after (recording_text judged.messages)

  -- The bytes received from the reader require an allocation, which failed.
  pub record HasRunOut (old new : R) : Type 0 where
    pub bytes : List ℕ
    pub stop : Stop
    pub came : HasReadInput source old new limits.input bytes stop
    pub takes : TakesMemory limits.frame bytes

  -- After a failed allocation nothing was written, and either nothing or the whole input was read.
  abbrev pub RecordsTrace : {U : Type 0} → R → R → W → W → Result U Refused → Type 0
  RecordsTrace {U} old new before after (Err WriteFault) =
      HasNotWrittenRecords U old new before after
  RecordsTrace old new before after (Err Memory) =
      ((new ≡ old) ⊎ HasRunOut old new) × (after ≡ before)
  RecordsTrace old new before after outcome = HasWrittenRecords old new before after outcome
