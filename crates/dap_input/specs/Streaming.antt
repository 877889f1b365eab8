-- The result of an engine that writes the text of an input record by record while it reads it, and
-- how far it has then read and written. Source: own. `Gives` states the text of an input, and
-- `Promises` everything that is promised about the text of a complete one.
use Rattle.std.specs.Prelude.{◌≡◌, ◌⊎◌, ℕ, ◌+◌, ◌≤◌, List, [], ◌++◌, length, take, Option, Some}
use Rattle.std.specs.{Prelude.{Result, Ok, Err}, Io.KnownBytes.Appends}
use Rattle.dap_device.specs.declared.device.Source.{Ghosts as Source}
use Rattle.dap_device.specs.declared.device.Sink.{Ghosts as Sink}
use Rattle.dap_device.specs.Device.{AwaitFlush, HasFlushedAll, HasTakenNothing}
use Rattle.dap_device.specs.{Pieces.HasReadSoFar, Written.{AllSent, AllWritten, PrefixWritten}}
use Rattle.dap_device.specs.{declared.reading.Stop.Stop, declared.reading.Stop.TheVariants.End}
use Rattle.dap_recording.specs.declared.record_fault.RecordCause.TheVariants.{Cut}
use Rattle.dap_input.specs.{Validation.Validation, declared.refused.Refused.Refused}
use Rattle.dap_input.specs.declared.refused.Refused.TheVariants.{Record, WriteFault, Memory}
use Rattle.dap_input.specs.{Inputs.AcceptedBefore, Engine.Accepts, ReadTo.{IsReadTo, so_far}}
use Rattle.dap_input.specs.Refusals.{RefusesAt}

-- An engine over a reader, by the bytes and counts that the reader reports.
module _ {R : Type 0} (j : Validation) (Gives : List ℕ → List ℕ → Type 0) (source : Source R) where
  -- These bytes were received, no more than this record required. The records before it are
  -- accepted and have this text.
  pub record HasComeTo (old new : R) (stop : Option Stop) (number : ℕ) (text : List ℕ) : Type 0
    where
      pub bytes : List ℕ
      pub came : HasReadSoFar source old new bytes stop
      pub read_to : IsReadTo j bytes number
      pub before : AcceptedBefore j (so_far bytes stop) number
      pub gives : Gives before.front text

  -- This record is rejected, or the reader failed at it. The records before it have this text. The
  -- error that it is cut is returned only if the reader reached its end.
  pub record RefusesNext (old new : R) (refused : Refused) (text : List ℕ) : Type 0 where
    pub number : ℕ
    pub stop : Option Stop
    pub to : HasComeTo old new stop number text
    pub refuses : RefusesAt j (so_far to.bytes stop) number refused
    pub cut : (n : ℕ) → refused ≡ Record n Cut → stop ≡ Some End

-- An engine over a reader and a writer, which writes the text of the validated records.
module _ {R W : Type 0} (j : Validation) (Gives Promises : List ℕ → List ℕ → Type 0)
    (source : Source R) (sink : Sink W) where
  -- The input is accepted, all of its text was written and flushed, and neither device failed.
  pub record HasStreamed (old new : R) (before after : W) : Type 0 where
    pub text : List ℕ
    pub accepts : Accepts source j.input Promises old new text
    pub written : AllSent sink before after text

  -- A record is rejected, or the reader failed at it, and the text of the records before it was
  -- written and flushed.
  pub record HasRefused (old new : R) (before after : W) (refused : Refused) : Type 0 where
    pub text : List ℕ
    pub refuses : RefusesNext j Gives source old new refused text
    pub written : AllSent sink before after text

  -- The text of some leading records was written, without a flush after it.
  pub record RanOutOfMemory (old new : R) (before after : W) : Type 0 where
    pub number : ℕ
    pub stop : Option Stop
    pub text : List ℕ
    pub to : HasComeTo j Gives source old new stop number text
    pub written : AllWritten sink before after text

  -- The engine stopped before it read the record of this number. The text of every record before it
  -- was written, except perhaps that of the last one, for which an allocation failed.
  pub record HasGivenUpAt (next : ℕ) (old new : R) (before after : W) : Type 0 where
    pub given_up : RanOutOfMemory old new before after
    pub none_lost : next ≤ given_up.number + 1

  -- the text to write for the record that the engine has reached: nothing, or the text of one more
  -- record
  abbrev pub IsNextText : List ℕ → Option Stop → ℕ → List ℕ → List ℕ → Type 0
  IsNextText bytes stop number text next = (next ≡ [])
      ⊎ ((before : AcceptedBefore j (so_far bytes stop) (number + 1))
      × Gives before.front (text ++ next))

  -- The writer failed: the text of the records before this one was written, and a prefix of this
  -- record's text, perhaps all of it, without a flush after it.
  pub record HasFailedToWrite (old new : R) (before after : W) : Type 0 where
    pub number : ℕ
    pub stop : Option Stop
    pub text : List ℕ
    pub to : HasComeTo j Gives source old new stop number text
    pub next : List ℕ
    pub is_next : IsNextText to.bytes stop number text next
    pub count : ℕ
    pub within : count ≤ length next
    pub written : Appends (sink.out before) (sink.out after) (text ++ take count next)
    pub awaits : AwaitFlush sink.unflushed before after (length text + count)
    pub failure : sink.failures after ≡ sink.failures before + 1

  abbrev pub Streams : {U : Type 0} → R → R → W → W → Result U Refused → Type 0
  Streams old new before after (Ok done) = HasStreamed old new before after
  Streams old new before after (Err WriteFault) = HasFailedToWrite old new before after
  Streams old new before after (Err Memory) = RanOutOfMemory old new before after
  Streams old new before after (Err refused) = HasRefused old new before after refused

-- The result is returned after the writer was flushed, or the writer failed.
abbrev pub Flushes : {W U : Type 0} → Sink W → W → W → Result U Refused → Result U Refused → Type 0
Flushes sink before after outcome given =
    ((given ≡ outcome) × HasFlushedAll sink.out sink.unflushed sink.failures before after)
    ⊎ ((given ≡ Err WriteFault)
    × HasTakenNothing sink.out sink.unflushed sink.failures before after)

-- How a result is returned: at once if an allocation failed, otherwise after the writer was
-- flushed.
abbrev pub Answers : {W U : Type 0} → Sink W → W → W → Result U Refused → Result U Refused → Type 0
Answers sink before after (Err Memory) given = (given ≡ Err Memory) × (after ≡ before)
Answers sink before after outcome given = Flushes sink before after outcome given

-- The remaining output is written before the result is returned; or the writer fails, and
-- `WriteFault` is returned.
abbrev pub Ends : {W U : Type 0} → Sink W → List ℕ → W → W → Result U Refused → Result U Refused
    → Type 0
Ends {W} sink text before after outcome given =
    ((mid : W) × AllWritten sink before mid text × Answers sink mid after outcome given)
    ⊎ (PrefixWritten sink before after text × (given ≡ Err WriteFault))
