-- The state in which a command function stops that reads no more of its input than it requires.
-- Source: own.
use Rattle.std.specs.Prelude.{◌≡◌, ℕ, List, length, Option, Some}
use Rattle.dap_device.specs.Pieces.{HasReadSoFar}
use Rattle.dap_device.specs.declared.device.Source.{Ghosts as Source}
use Rattle.dap_device.specs.{declared.reading.Stop.Stop, declared.reading.Stop.TheVariants.End}
use Rattle.dap_recording.specs.declared.record_fault.RecordCause.TheVariants.{Cut}
use Rattle.dap_input.specs.{InputSteps.RefusalHolds, Inputs.AcceptedBefore, Validation.Validation}
use Rattle.dap_input.specs.{ReadTo.{IsReadTo, so_far}, RecordSteps.IsWithin}
use Rattle.dap_input.specs.declared.refused.Refused.{Refused}
use Rattle.dap_input.specs.declared.refused.Refused.TheVariants.{Record}

-- These bytes of the input were read, no more than this record requires, and the records before it
-- are accepted. This record is rejected, or the reader failed at it. It is rejected as `Cut` only if
-- the reader reached its end. A failed allocation says nothing about the record.
pub record StopsAt {R : Type 0} (j : Validation) (source : Source R) (old new : R)
    (refused : Refused) : Type 0 where
  pub bytes : List ℕ
  pub stop : Option Stop
  pub came : HasReadSoFar source old new bytes stop
  pub within : IsWithin (length bytes) j.input stop
  pub number : ℕ
  pub read_to : IsReadTo j bytes number
  pub before : AcceptedBefore j (so_far bytes stop) number
  pub says : RefusalHolds j bytes stop number refused
  pub cut : (n : ℕ) → refused ≡ Record n Cut → stop ≡ Some End
