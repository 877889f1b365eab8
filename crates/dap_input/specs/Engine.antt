-- The result of an engine that reads its complete input before it writes, and the state of its
-- devices after that. Source: own. `Gives` states the result for an input, and `IsRefused` the
-- rejection. At most one of them holds.
use Rattle.std.specs.Prelude.{◌≡◌, ◌⊎◌, ℕ, List, Result, Ok, Err}
use Rattle.dap_device.specs.declared.device.Source.{Ghosts as Source}
use Rattle.dap_device.specs.declared.device.Sink.{Ghosts as Sink}
use Rattle.dap_recording.specs.declared.record_fault.RecordCause.TheVariants.{Cut}
use Rattle.dap_device.specs.declared.reading.Stop.{Stop}
use Rattle.dap_device.specs.{declared.reading.Stop.TheVariants.{End, Failed}, Reading.HasReadInput}
use Rattle.dap_device.specs.Written.{AllSent, PrefixWritten}
use Rattle.dap_input.specs.declared.refused.Refused.{Refused}
use Rattle.dap_input.specs.declared.refused.Refused.TheVariants.{Record, ReadFault, WriteFault}
use Rattle.dap_input.specs.declared.refused.Refused.TheVariants.{Memory}

-- An engine over a reader, by the bytes and failures that the reader reports.
module _ {R : Type 0} (source : Source R) (input : ℕ) where
  -- These bytes were received from the reader, and it stopped for this reason.
  abbrev pub Came : R → R → List ℕ → Stop → Type 0
  Came old new bytes stop = HasReadInput source old new input bytes stop

  -- Nothing of the input was read; or it was read up to its end, to a byte beyond the limit, or to
  -- a failure of the reader.
  abbrev pub ReadsNoneOrAll : R → R → Type 0
  ReadsNoneOrAll old new = (new ≡ old)
      ⊎ ((bytes : List ℕ) × (stop : Stop) × Came old new bytes stop)

  module _ {T : Type 0} (Gives : List ℕ → T → Type 0) where
    -- The reader reached its end, and the received bytes have this result.
    pub record Accepts (old new : R) (given : T) : Type 0 where
      pub whole : List ℕ
      pub came : Came old new whole End
      pub gives : Gives whole given

    -- The reader failed, and the bytes before are not rejected, except for where they end.
    pub record FailsToRead (IsRefused : List ℕ → Refused → Type 0) (old new : R) : Type 0 where
      pub bytes : List ℕ
      pub came : Came old new bytes Failed
      pub not_refused : ((given : T) × Gives bytes given)
          ⊎ ((n : ℕ) × IsRefused bytes (Record n Cut))

  -- The received bytes are rejected. The error that they end too early is returned only if the
  -- reader reached its end.
  pub record RefusesInput (IsRefused : List ℕ → Refused
      → Type 0) (old new : R) (refused : Refused) : Type 0 where
    pub bytes : List ℕ
    pub stop : Stop
    pub came : Came old new bytes stop
    pub is_refused : IsRefused bytes refused
    pub cut : (n : ℕ) → refused ≡ Record n Cut → stop ≡ End

-- An engine over a reader and a writer, which writes the text that its input produces.
module _ {R W : Type 0} (source : Source R) (sink : Sink W)
    (input : ℕ) (Gives : List ℕ → List ℕ → Type 0) (IsRefused : List ℕ → Refused → Type 0) where
  -- All of the text was written and flushed, and neither device failed.
  pub record HasFinished (old new : R) (before after : W) : Type 0 where
    pub text : List ℕ
    pub accepts : Accepts source input Gives old new text
    pub written : AllSent sink before after text

  -- The writer failed after a prefix of the text, perhaps all of it, was written.
  pub record HasNotWritten (old new : R) (before after : W) : Type 0 where
    pub text : List ℕ
    pub accepts : Accepts source input Gives old new text
    pub written : PrefixWritten sink before after text

  -- With every other result, nothing was written.
  abbrev pub Answers : {U : Type 0} → R → R → W → W → Result U Refused → Type 0
  Answers old new before after (Ok done) = HasFinished old new before after
  Answers old new before after (Err ReadFault) =
      FailsToRead source input Gives IsRefused old new × (after ≡ before)
  Answers old new before after (Err WriteFault) = HasNotWritten old new before after
  Answers old new before after (Err Memory) = after ≡ before
  Answers old new before after (Err refused) =
      RefusesInput source input IsRefused old new refused × (after ≡ before)
