-- The progress of an engine that validates an input record by record. Source: own.
use Rattle.std.specs.Prelude.{◌≡◌, ℕ, List, length, Option, Some, None, is_some, Result, Ok, Err}
use Rattle.dap_device.specs.declared.device.Source.{Ghosts as Source}
use Rattle.dap_device.specs.{Pieces.HasReadSoFar, declared.reading.Stop.Stop}
use Rattle.dap_device.specs.declared.reading.Stop.TheVariants.{End}
use Rattle.dap_recording.specs.declared.record_fault.RecordCause.TheVariants.{Cut}
use Rattle.dap_input.specs.{Validation.Validation, ReadTo.so_far, RecordSteps.IsWithin}
use Rattle.dap_input.specs.{Refusals.RefusesAt, declared.records.Records.Records}
use Rattle.dap_input.specs.declared.refused.Refused.{Refused}
use Rattle.dap_input.specs.declared.refused.Refused.TheVariants.{Record, Memory}

-- the facts about the received bytes if a record is rejected at this number; an allocation failure
-- states nothing about them
abbrev pub RefusalHolds : Validation → List ℕ → Option Stop → ℕ → Refused → Type 0
RefusalHolds j bytes stop number Memory = Unit {0}
RefusalHolds j bytes stop number refused = RefusesAt j (so_far bytes stop) number refused

module _ {R : Type 0} (j : Validation) (source : Source R) where
  -- The source reached its end, and the received bytes are accepted as these values.
  pub record AcceptsAll (old new : R) (values : List j.Value) : Type 0 where
    pub whole : List ℕ
    pub came : HasReadSoFar source old new whole (Some End)
    pub within : IsWithin (length whole) j.input (Some End)
    pub accepted : j.IsAccepted whole values

  -- These bytes of the input were received, and a record of it is rejected or cannot be read. The
  -- error that it is cut is returned only if the source reached its end.
  pub record RefusesOne {I : Type 0} (old new : R) (records : Records I)
      (refused : Refused) : Type 0 where
    pub bytes : List ℕ
    pub stop : Option Stop
    pub came : HasReadSoFar source old new bytes stop
    pub within : IsWithin (length bytes) j.input stop
    pub over : records.is_over ≡ is_some stop
    pub taken : stop ≡ None → records.pieces.taken ≡ length bytes
    pub limit_is : records.pieces.limit ≡ j.input
    pub number : ℕ
    pub says : RefusalHolds j bytes stop number refused
    pub cut : (n : ℕ) → refused ≡ Record n Cut → stop ≡ Some End

  -- The text of the values of all records is complete, or one record is rejected.
  abbrev pub JudgesAll : {I T : Type 0} → (List j.Value → List ℕ) → (T → List ℕ) → R → R
      → Records I → Result T Refused → Type 0
  JudgesAll text bytes_of old new records (Ok out) =
      (values : List j.Value) × AcceptsAll old new values × (bytes_of out ≡ text values)
  JudgesAll text bytes_of old new records (Err refused) = RefusesOne old new records refused
