-- Comparing two inputs record by record, for any kind of records and any definition of when their
-- values are the same: the verdict. Source: own.
use Rattle.std.specs.Prelude.{◌≡◌, ◌≢◌, ◌⊎◌, ℕ, ◌+◌, ◌<◌, List, []}
use Rattle.dap_input.specs.Validation.{Validation}
use Rattle.dap_input.specs.Inputs.{Input, Fault, IsRefusedAt, IsNotRefusedAt, IsTaken}
use Rattle.dap_input.specs.Inputs.{AcceptedBefore}

module _ (j : Validation) where
  module _ (AreSame : List j.Value → List j.Value → Type 0) where
    -- The records before this one are accepted in both inputs, and their values are the same.
    pub record AreSameBefore (a b : Input) (number : ℕ) : Type 0 where
      pub of_a : AcceptedBefore j a number
      pub of_b : AcceptedBefore j b number
      pub same : AreSame of_a.values of_b.values

    -- Exactly one of the inputs has ended, or the values up to this record are not the same.
    abbrev pub DifferAt : (a b : Input) (number : ℕ) → AreSameBefore a b number → Type 0
    DifferAt a b number before =
        ((before.of_a.rest ≡ []) × (before.of_b.rest ≢ []))
        ⊎ (((before.of_a.rest ≢ []) × (before.of_b.rest ≡ []))
        ⊎ ((next_a : AcceptedBefore j a (number + 1)) × (next_b : AcceptedBefore j b (number + 1))
        × (AreSame next_a.values next_b.values → ⊥)))

    -- The values of the complete inputs are the same.
    pub record AreSameInputs (a b : Input) : Type 0 where
      pub of_a : List j.Value
      pub of_b : List j.Value
      pub taken_a : IsTaken j a of_a
      pub taken_b : IsTaken j b of_b
      pub same : AreSame of_a of_b

    -- `pairs` returns the evidence that two lists of values are the same.
    module _ {P : Type 0} (pairs : List j.Value → List j.Value → P) where
      pub data Verdict : Type 0 where
        are_same : P → Verdict
        differ : ℕ → Verdict
        refused_a : ℕ → Fault → Verdict
        refused_b : ℕ → Fault → Verdict

      -- Record by record, of the first input and then of the second: the first record that is
      -- rejected or that differs. If there is no such record, the evidence that the values are the
      -- same.
      abbrev pub IsVerdict : Input → Input → Verdict → Type 0
      IsVerdict a b (refused_a number fault) = AreSameBefore a b number
          × IsRefusedAt j a number fault
      IsVerdict a b (refused_b number fault) = AreSameBefore a b number × IsNotRefusedAt j a number
          × IsRefusedAt j b number fault
      IsVerdict a b (differ number) = (before : AreSameBefore a b number)
          × IsNotRefusedAt j a number × IsNotRefusedAt j b number × DifferAt a b number before
      IsVerdict a b (are_same how) = (inputs : AreSameInputs a b)
          × (how ≡ pairs inputs.of_a inputs.of_b)

      -- Two inputs have exactly one verdict.
      pub record HasOneVerdict : Type 0 where
        pub some : (a b : Input) → (verdict : Verdict) × IsVerdict a b verdict
        pub one : (a b : Input) (verdict other : Verdict) → IsVerdict a b verdict
            → IsVerdict a b other → verdict ≡ other
        -- no earlier record differs
        pub least : (a b : Input) (number earlier : ℕ) → IsVerdict a b (differ number)
            → earlier < number
            → (before : AreSameBefore a b earlier) → DifferAt a b earlier before → ⊥
