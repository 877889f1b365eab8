-- How old outputs normalise in the mode `Whole`: those that were written by the first rows of the
-- profile, before thread ids and breakpoint ids were renamed. Source: own.
use Rattle.std.specs.Prelude.{◌≡◌, ℕ, List}
use Rattle.dap_profile.specs.Profile.{first_rows}
use Rattle.dap_message.specs.Message.{Sent}
use Rattle.dap_rename.specs.{Messages.{IsNormal, no_stop}, declared.mode.Mode.TheVariants.Whole}
use Rattle.dap_input.specs.{declared.limits.Limits.Limits, Limits.AreSound}
use Rattle.dap_normalise.specs.{Accepting.{IsAcceptedByRows, text}, Normalising.Normalises}

-- The old output is that of a recording by the first rows. Both the first rows and the entire
-- profile accept the recording, and by the profile it normalises to the new output.
pub record IsOldGolden (limits : Limits) (old new : List ℕ) : Type 0 where
  pub recording : List ℕ
  pub first : List Sent
  pub accepted : IsAcceptedByRows first_rows limits Whole recording first
  pub normal : List Sent
  pub is_normal : IsNormal no_stop first normal
  pub old_is : old ≡ text normal
  pub normalises : Normalises limits Whole recording new

-- An old golden file normalises to the new output of its recording.
abbrev pub OldGoldenFiles : Type 0
OldGoldenFiles = (limits : Limits) → AreSound limits → (old new : List ℕ)
    → IsOldGolden limits old new → Normalises limits Whole old new
