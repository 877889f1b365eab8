-- The records that are stored if two recordings differ, as in their normal forms. Source: own.
use Rattle.std.specs.Prelude.{◌≡◌, ◌⊎◌, ℕ, ◌+◌, List, [], ◌∷◌, ◌++◌, Option, Result, Ok, Err}
use Rattle.dap_device.specs.declared.device.Source.{Ghosts as Source}
use Rattle.dap_device.specs.{declared.reading.Stop.Stop, Pieces.HasReadSoFar}
use Rattle.dap_message.specs.Message.{Sent}
use Rattle.dap_rename.specs.{Messages.IsNormal, Modes.stop_in, declared.mode.Mode.Mode}
use Rattle.dap_input.specs.{declared.limits.Limits.Limits, Inputs.{Input, AcceptedBefore}}
use Rattle.dap_input.specs.ReadTo.{IsOf}
use Rattle.dap_normalise.specs.{Accepting.accepting, JudgingSteps.record_of}
use Rattle.dap_compare.specs.declared.verdict.CompareRefused.{CompareRefused}
use Rattle.dap_compare.specs.declared.verdict.Verdict.{Verdict as CodeVerdict}
use Rattle.dap_compare.specs.declared.verdict.Verdict.TheVariants as code

-- The text is this record of the input's normal form; or the input ends before it, and the text is
-- empty.
abbrev pub IsRecordAt : Limits → Mode → Input → ℕ → List ℕ → Type 0
IsRecordAt limits mode input number text =
    ((before : AcceptedBefore (accepting limits mode) input number) × (before.rest ≡ []) × (text
    ≡ []))
    ⊎ ((next : AcceptedBefore (accepting limits mode) input (number + 1)) × (normal : List Sent)
    × (named : Sent) × IsNormal (stop_in mode) next.values (normal ++ named ∷ [])
    × (text ≡ record_of named))

-- These bytes were read, and this text of the record is stored, whatever bytes follow in the input.
pub record LeavesRecord {R : Type 0} (source : Source R) (limits : Limits) (mode : Mode) (old new :
    R)
    (number : ℕ) (text : List ℕ) : Type 0 where
  pub bytes : List ℕ
  pub stop : Option Stop
  pub came : HasReadSoFar source old new bytes stop
  pub is_record : (input : Input) → IsOf bytes stop input → IsRecordAt limits mode input number text

-- If the result is a difference, the record that differs is stored.
abbrev pub LeavesDifference : {R : Type 0} → Source R → Limits → Mode → R → R → List ℕ
    → Result CodeVerdict CompareRefused → Type 0
LeavesDifference source limits mode old new text (Ok (code.Same renaming)) = Unit {0}
LeavesDifference source limits mode old new text (Ok (code.Differ n)) =
    LeavesRecord source limits mode old new n text
LeavesDifference source limits mode old new text (Err refusal) = Unit {0}
