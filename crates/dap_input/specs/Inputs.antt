-- An input as it was received, for any kind of record: where it is rejected, and what comes before
-- a record. Source: own.
use Rattle.std.specs.Prelude.{◌≡◌, ◌≢◌, ◌⊎◌, ℕ, ◌+◌, Bool, true, false, List, ◌++◌, length}
use Rattle.dap_input.specs.Validation.{Validation, Reason, cut, IsFirstRefusal}

-- An input as it was received: its bytes, and whether its reader failed after them.
pub record Input : Type 0 where
  pub bytes : List ℕ
  pub failed : Bool

-- why an input is rejected at a record: for the bytes or the content there, or because its reader
-- failed
pub data Fault : Type 0 where
  refused : Reason → Fault
  read_fault : Fault

module _ (j : Validation) where
  -- The bytes end before this record or inside it, and those before contain no error.
  abbrev pub EndsAt : List ℕ → ℕ → Type 0
  EndsAt bytes number = IsFirstRefusal j bytes number cut
      ⊎ ((values : List j.Value) × j.IsAccepted bytes values × (number ≡ length values + 1))

  -- The input is rejected at this record: the first rejection of its bytes is there. If the reader
  -- failed and the bytes only end there, the failure is the reason.
  abbrev pub IsRefusedAt : Input → ℕ → Fault → Type 0
  IsRefusedAt input number (refused why) = IsFirstRefusal j input.bytes number why
      × (input.failed ≡ true → why ≢ cut)
  IsRefusedAt input number read_fault = (input.failed ≡ true) × EndsAt input.bytes number

  abbrev pub IsNotRefusedAt : Input → ℕ → Type 0
  IsNotRefusedAt input number = (fault : Fault) → IsRefusedAt input number fault → ⊥

  -- The input is accepted as these values, and its reader did not fail.
  abbrev pub IsTaken : Input → List j.Value → Type 0
  IsTaken input values = j.IsAccepted input.bytes values × (input.failed ≡ false)

  -- The records before this one are accepted.
  pub record AcceptedBefore (input : Input) (number : ℕ) : Type 0 where
    pub values : List j.Value
    pub front : List ℕ
    pub rest : List ℕ
    pub split : input.bytes ≡ front ++ rest
    pub accepted : j.IsAccepted front values
    pub is_number : number ≡ length values + 1
