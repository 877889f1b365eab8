-- The result of comparing all records of two recordings. Source: own.
use Rattle.std.specs.Prelude.{◌≡◌, ◌⊎◌, ℕ, false, List, Result, Ok, Err}
use Rattle.dap_device.specs.declared.device.Source.{Ghosts as Source}
use Rattle.dap_rename.specs.declared.mode.Mode.{Mode}
use Rattle.dap_input.specs.{declared.limits.Limits.Limits, declared.refused.Refused.Refused}
use Rattle.dap_input.specs.declared.refused.Refused.TheVariants as why
use Rattle.dap_input.specs.Engine.{Accepts}
use Rattle.dap_normalise.specs.{Checking.Checks, Normalising.Normalises}
use Rattle.dap_compare.specs.declared.verdict.CompareRefused.{CompareRefused}
use Rattle.dap_compare.specs.declared.verdict.CompareRefused.TheVariants.{Input, Memory}
use Rattle.dap_compare.specs.declared.verdict.Which.TheVariants.{A, B}
use Rattle.dap_diff.specs.declared.all_differences.AllDifferences.{AllDifferences}
use Rattle.dap_diff.specs.declared.all_differences.AllDifferences.TheVariants.{Same, Differ}

-- An input, by the bytes and the failures that its reader reports.
module _ {R : Type 0} (source : Source R) (limits : Limits) (mode : Mode) (old new : R) where
  -- The reader came to its end, its recording is accepted, and this is the text of the normal form.
  abbrev pub HasNormalText : List ℕ → Type 0
  HasNormalText text = Accepts source limits.input (Normalises limits mode) old new text

  -- `check` refuses the input for this.
  abbrev pub ChecksRefused : Refused → Type 0
  ChecksRefused why = Checks source limits mode false old new (Err why)

  -- An allocation failed at some record. The records before it are accepted, no more was read than
  -- that record requires, and the reader did not fail.
  abbrev pub RanOutOfMemory : Type 0
  RanOutOfMemory = ChecksRefused why.Memory

-- Two inputs, A and then B.
module _ {R S : Type 0} (source_a : Source R) (source_b : Source S) (limits : Limits) (mode : Mode)
    (old_a new_a : R) (old_b new_b : S) where
  -- Both recordings are accepted, with these texts of their normal forms.
  pub record AreAccepted (text_a text_b : List ℕ) : Type 0 where
    pub a : HasNormalText source_a limits mode old_a new_a text_a
    pub b : HasNormalText source_b limits mode old_b new_b text_b

  -- An allocation failed at some record of A, and nothing was read of B; or A is accepted, and an
  -- allocation failed at some record of B, or after its last record.
  abbrev pub RunsOutOfMemory : Type 0
  RunsOutOfMemory =
      (RanOutOfMemory source_a limits mode old_a new_a × (new_b ≡ old_b))
      ⊎ ((text_a : List ℕ) × HasNormalText source_a limits mode old_a new_a text_a
      × RanOutOfMemory source_b limits mode old_b new_b)

  -- `Same` is returned if both recordings have one normal form, and differences if they have two.
  -- A refusal of A is reported before anything of B is read, and a refusal of B if A is accepted.
  abbrev pub DiffersAll : Result AllDifferences CompareRefused → Type 0
  DiffersAll (Ok Same) = (text : List ℕ) × AreAccepted text text
  DiffersAll (Ok (Differ lines)) =
      (text_a : List ℕ) × (text_b : List ℕ) × AreAccepted text_a text_b × (text_a ≡ text_b → ⊥)
  DiffersAll (Err (Input A why)) =
      ChecksRefused source_a limits mode old_a new_a why × (new_b ≡ old_b)
  DiffersAll (Err (Input B why)) =
      (text_a : List ℕ) × HasNormalText source_a limits mode old_a new_a text_a
      × ChecksRefused source_b limits mode old_b new_b why
  DiffersAll (Err Memory) = RunsOutOfMemory
