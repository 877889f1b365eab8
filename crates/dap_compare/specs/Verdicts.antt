-- The verdict on two recordings: a renaming, the first record that differs, or the first error of
-- one of them. Source: own.
use Rattle.std.specs.Prelude.{◌≡◌, ℕ, ℤ, ◌-◌, List, Option, Result, Ok, Err}
use Rattle.dap_device.specs.declared.device.Source.{Ghosts as Source}
use Rattle.dap_message.specs.Message.{Sent}
use Rattle.dap_rename.specs.Messages.{Class, IsProperId, AreSame, Carries, equal_places}
use Rattle.dap_rename.specs.{Modes.stop_in, declared.mode.Mode.Mode, Pairs.entries}
use Rattle.dap_rename.specs.{Renaming.pairs_of, Renamings.IsRenaming}
use Rattle.dap_input.specs.{declared.limits.Limits.Limits, declared.refused.Refused.Refused}
use Rattle.dap_device.specs.declared.reading.Stop.{Stop}
use Rattle.dap_compare.specs.declared.verdict.CompareRefused.{CompareRefused}
use Rattle.dap_compare.specs.declared.verdict.CompareRefused.TheVariants as because
use Rattle.dap_compare.specs.declared.verdict.Verdict.{Verdict as CodeVerdict}
use Rattle.dap_compare.specs.declared.verdict.Verdict.TheVariants as code
use Rattle.dap_compare.specs.declared.verdict.Which.TheVariants.{A, B}
use Rattle.dap_compare.specs.Comparing.{Verdict, IsVerdict, are_same, differ, refused_a, refused_b}
use Rattle.dap_compare.specs.Comparing.{AreSameBefore, HasOneVerdict}
use Rattle.dap_input.specs.{Limits.AreSound, Refusals.RefusalMatches, ReadTo.{IsOf, IsReadTo}}
use Rattle.dap_input.specs.Inputs.{Input, Fault, IsTaken}
use Rattle.dap_normalise.specs.Accepting.{accepting}
use Rattle.dap_device.specs.Pieces.{HasReadSoFar}

-- Two recordings are the same if a renaming maps the messages of the first to those of the second.
-- The evidence is pairing by position. Both use the classes of the mode.
abbrev pub RecordingVerdict : Limits → Mode → Type 0
RecordingVerdict limits mode = Verdict (accepting limits mode) (AreSame (stop_in mode))
    (equal_places (stop_in mode))

abbrev pub IsRecordingVerdict : (limits : Limits) (mode : Mode) → Input → Input → RecordingVerdict
    limits mode → Type 0
IsRecordingVerdict limits mode a b verdict =
    IsVerdict (accepting limits mode) (AreSame (stop_in mode)) (equal_places (stop_in mode)) a b
    verdict

-- The verdict on the inputs is that one of them is rejected at this record, for the error that is
-- returned.
pub record IsRefusalOf (limits : Limits) (mode : Mode) (number : ℕ) (why : Refused) (verdict : Fault
    → RecordingVerdict limits mode) (a b : Input) : Type 0 where
  pub fault : Fault
  pub tells : RefusalMatches why number fault
  pub is_verdict : IsRecordingVerdict limits mode a b (verdict fault)

-- If an allocation failed at this record, the records before it are accepted in both inputs, and
-- are the same.
abbrev pub TellsRefusal : Limits → Mode → Input → Input → ℕ → CompareRefused → Type 0
TellsRefusal limits mode a b number (because.Input A why) =
    IsRefusalOf limits mode number why (refused_a number) a b
TellsRefusal limits mode a b number (because.Input B why) =
    IsRefusalOf limits mode number why (refused_b number) a b
TellsRefusal limits mode a b number because.Memory =
    AreSameBefore (accepting limits mode) (AreSame (stop_in mode)) a b number

-- The verdict is returned. It is that of this record, unless the inputs are the same.
abbrev pub TellsVerdict : Limits → Mode → Input → Input → ℕ → Result CodeVerdict CompareRefused
    → Type 0
TellsVerdict limits mode a b number (Ok (code.Same renaming)) =
    IsRecordingVerdict limits mode a b (are_same (entries (pairs_of renaming)))
TellsVerdict limits mode a b number (Ok (code.Differ n)) = (n ≡ number)
    × IsRecordingVerdict limits mode a b (differ number)
TellsVerdict limits mode a b number (Err refusal) = TellsRefusal limits mode a b number refusal

-- the record to which the second input is read: that of the verdict, or the one before it if the
-- first input is rejected there
abbrev pub read_of_b : ℕ → Result CodeVerdict CompareRefused → ℕ
read_of_b number (Err (because.Input A why)) = number - 1
read_of_b number outcome = number

-- Two readers, in terms of the bytes that they report and of their counts.
module _ {R S : Type 0} (source_a : Source R) (source_b : Source S) (limits : Limits) (mode : Mode)
  where
    -- Neither reader failed, unless the error of an input is returned.
    abbrev pub NoneFails : R → R → S → S → Result CodeVerdict CompareRefused → Type 0
    NoneFails old_a new_a old_b new_b (Err (because.Input which why)) = Unit {0}
    NoneFails old_a new_a old_b new_b outcome = (source_a.failures new_a ≡ source_a.failures old_a)
        × (source_b.failures new_b ≡ source_b.failures old_b)

    -- These bytes were read, no more than this record requires, and the verdict on the inputs is
    -- returned, whatever bytes follow in the inputs; or an allocation failed.
    pub record HasCompared (old_a new_a : R) (old_b new_b : S)
        (outcome : Result CodeVerdict CompareRefused) : Type 0 where
      pub number : ℕ
      pub bytes_a : List ℕ
      pub stop_a : Option Stop
      pub came_a : HasReadSoFar source_a old_a new_a bytes_a stop_a
      pub read_a : IsReadTo (accepting limits mode) bytes_a number
      pub bytes_b : List ℕ
      pub stop_b : Option Stop
      pub came_b : HasReadSoFar source_b old_b new_b bytes_b stop_b
      pub read_b : IsReadTo (accepting limits mode) bytes_b (read_of_b number outcome)
      pub tells : (a b : Input) → IsOf bytes_a stop_a a → IsOf bytes_b stop_b b
          → TellsVerdict limits mode a b number outcome
      pub none_fails : NoneFails old_a new_a old_b new_b outcome

    abbrev pub Compares : R → R → S → S → Result CodeVerdict CompareRefused → Type 0
    Compares old_a new_a old_b new_b outcome = HasCompared old_a new_a old_b new_b outcome

-- Two inputs have exactly one verdict. If they differ, no earlier record differs.
abbrev pub RecordingsHaveOneVerdict : Type 0
RecordingsHaveOneVerdict = (limits : Limits) (mode : Mode) → AreSound limits
    → HasOneVerdict (accepting limits mode) (AreSame (stop_in mode)) (equal_places (stop_in mode))

-- If both inputs are accepted, the verdict is that they are the same if and only if their messages
-- are the same.
pub record SameHasRenaming (limits : Limits) (mode : Mode) (a b : Input) (of_a of_b : List Sent)
    : Type 0
  where
    pub if_same : AreSame (stop_in mode) of_a of_b
        → IsRecordingVerdict limits mode a b (are_same (equal_places (stop_in mode) of_a of_b))
    pub only_if : (how : List (Class × ℤ × ℤ)) → IsRecordingVerdict limits mode a b (are_same how)
        → AreSame (stop_in mode) of_a of_b

abbrev pub SameIffRenaming : Type 0
SameIffRenaming = (limits : Limits) (mode : Mode) → AreSound limits → (a b : Input) (of_a of_b :
    List Sent)
    → IsTaken (accepting limits mode) a of_a → IsTaken (accepting limits mode) b of_b
    → SameHasRenaming limits mode a b of_a of_b

-- If the verdict is that they are the same, both inputs are accepted. The pairs are a renaming that
-- maps the messages of the first to those of the second.
pub record IsCarried (limits : Limits) (mode : Mode) (a b : Input) (how : List (Class × ℤ × ℤ)) :
    Type 0 where
  pub of_a : List Sent
  pub of_b : List Sent
  pub taken_a : IsTaken (accepting limits mode) a of_a
  pub taken_b : IsTaken (accepting limits mode) b of_b
  pub is_renaming : IsRenaming IsProperId how
  pub carries : Carries (stop_in mode) how of_a of_b

abbrev pub SameIsCarried : Type 0
SameIsCarried = (limits : Limits) (mode : Mode) → AreSound limits → (a b : Input) (how : List (Class
    × ℤ × ℤ))
    → IsRecordingVerdict limits mode a b (are_same how) → IsCarried limits mode a b how
