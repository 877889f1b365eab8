-- The comparison of a golden file with a golden text. Source: own, over normal texts and the
-- verdict on two recordings.
use Rattle.std.specs.Prelude.{◌≡◌, ◌≢◌, ℕ, false, List, Option}
use Rattle.dap_message.specs.Message.{Sent}
use Rattle.dap_rename.specs.declared.mode.Mode.{Mode}
use Rattle.dap_input.specs.{declared.limits.Limits.Limits, declared.refused.Refused.Refused}
use Rattle.dap_input.specs.{Inputs.Input, Refusals.IsRefused}
use Rattle.dap_normalise.specs.{Accepting.accepting, Normalising.Normalises}
use Rattle.dap_compare.specs.Comparing.{differ, refused_a}
use Rattle.dap_compare.specs.Verdicts.{IsRecordingVerdict, IsRefusalOf}
use Rattle.dap_diff.specs.Diffs.{HasAt, diff_lines}
use Rattle.dap_golden.specs.declared.fault.GoldenFault.{GoldenFault}
use Rattle.dap_golden.specs.declared.fault.GoldenFault.TheVariants as because
use Rattle.dap_golden.specs.declared.comparing.GoldenVerdict.{GoldenVerdict}
use Rattle.dap_golden.specs.declared.comparing.GoldenVerdict.TheVariants as verdict

-- The text is its own normal text. This holds for every golden text.
abbrev pub IsNormalText : Limits → Mode → List ℕ → Type 0
IsNormalText limits mode text = Normalises limits mode text text

-- All bytes of a reader that did not fail.
abbrev pub all_of : List ℕ → Input
all_of bytes = record { bytes = bytes; failed = false }

module _ (limits : Limits) (mode : Mode) (golden text : List ℕ) where
  -- The first record in which the two differ is this one, and the lines show the message that the
  -- golden file (A) and the text (B) have there.
  pub record DiffersAt (number : ℕ) (lines : List ℕ) : Type 0 where
    pub differs : IsRecordingVerdict limits mode (all_of golden) (all_of text) (differ number)
    pub of_golden : Option Sent
    pub of_text : Option Sent
    pub golden_has : HasAt limits mode (all_of golden) number of_golden
    pub text_has : HasAt limits mode (all_of text) number of_text
    pub lines_are : lines ≡ diff_lines of_golden of_text

  -- The golden file is another recording with this normal text: someone wrote or edited it, or an
  -- older version wrote it.
  pub record IsNotNormal : Type 0 where
    pub normalises : Normalises limits mode golden text
    pub other : golden ≢ text

  -- The meaning of each verdict.
  abbrev pub IsGoldenVerdict : GoldenVerdict → Type 0
  IsGoldenVerdict verdict.Same = golden ≡ text
  IsGoldenVerdict (verdict.Differs number lines) = DiffersAt number lines.items
  IsGoldenVerdict verdict.NotNormal = IsNotNormal

  -- The golden file is rejected for this reason at a record. The records before it are the same in
  -- both.
  pub record IsRefusedFile (refused : Refused) : Type 0 where
    pub is_refused : IsRefused (accepting limits mode) golden refused
    pub number : ℕ
    pub first : IsRefusalOf limits mode number refused (refused_a number) (all_of golden)
        (all_of text)

  abbrev pub IsGoldenFault : GoldenFault → Type 0
  IsGoldenFault (because.Golden refused) = IsRefusedFile refused
  IsGoldenFault because.Memory = Unit {0}
