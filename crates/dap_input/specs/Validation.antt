-- Inputs validated record by record: the first rejection of an input that is not accepted, for any
-- kind of record and any validation. Source: own.
use Rattle.std.specs.Prelude.{◌≡◌, ◌≢◌, ℕ, ◌+◌, ◌<◌, ◌≤◌, List, [], ◌++◌, length}
use Rattle.dap_frame.specs.Grammar.{Grammar, IsItem, FailsAt}
use Rattle.dap_message.specs.Message.{Refusal}
use Rattle.dap_recording.specs.declared.record_fault.RecordCause.{RecordCause}
use Rattle.dap_session.specs.declared.rule.Rule.{Rule}

-- Why a complete record is rejected: it does not contain a message, or contains one that violates a
-- rule; or with it a kind of id has too many values, or the output exceeds a limit.
pub data ContentError : Type 0 where
  no_message : Refusal → ContentError
  broken : Rule → ContentError
  too_many_ids : ContentError
  grew : ContentError

-- Why a record is rejected: for its bytes, for the position of the byte beyond the limit or of the
-- end of the input, or for its content.
pub data Reason : Type 0 where
  faulty : RecordCause → Reason
  input_too_long : Reason
  cut : Reason
  objected : ContentError → Reason

-- The definitions that describe a validation.
pub record Validation : Type 1 where
  -- the content of a complete record, and the value that it is validated as
  pub Payload : Type 0
  pub Value : Type 0
  -- the maximum number of bytes that are read
  pub input : ℕ
  -- the records of an input
  pub records : Grammar Payload RecordCause
  -- after these values, the content of a record is this value, or is rejected
  pub IsNext : List Value → Payload → Value → Type 0
  pub Rejects : List Value → Payload → ContentError → Type 0
  -- the complete input is accepted as these values
  pub IsAccepted : List ℕ → List Value → Type 0

module _ (j : Validation) where
  -- An error of the bytes, at the byte that proves it, which is at most the last byte that is read.
  pub record ShowsInTime (used : ℕ) (rest : List ℕ) (cause : RecordCause) : Type 0 where
    pub place : ℕ
    pub shows : FailsAt j.records rest cause place
    pub in_time : used + place ≤ j.input

  -- The byte beyond the limit is in the record, before any error of its bytes.
  pub record PassesLimit (used : ℕ) (rest : List ℕ) : Type 0 where
    pub long : j.input < used + length rest
    pub before_faults : (cause : RecordCause) (place : ℕ) → FailsAt j.records rest cause place
        → j.input < used + place
    pub before_end : (front more : List ℕ) (held : j.Payload) → rest ≡ front ++ more
        → IsItem j.records front held → j.input < used + length front

  -- The bytes end inside the record.
  pub record IsCut (used : ℕ) (rest : List ℕ) : Type 0 where
    pub begun : rest ≢ []
    pub is_open : j.records.IsOpen rest
    pub in_time : used + length rest ≤ j.input

  -- A complete record is there, and is rejected for its content.
  pub record IsObjectedTo (values : List j.Value) (used : ℕ) (rest : List ℕ)
      (why : ContentError) : Type 0 where
    pub front : List ℕ
    pub more : List ℕ
    pub held : j.Payload
    pub whole : rest ≡ front ++ more
    pub is_record : IsItem j.records front held
    pub in_time : used + length front ≤ j.input
    pub objects : j.Rejects values held why

  -- After `used` bytes with these values, the record at the start of the rest is rejected.
  abbrev pub Refuses : List j.Value → ℕ → List ℕ → Reason → Type 0
  Refuses values used rest (faulty cause) = ShowsInTime used rest cause
  Refuses values used rest input_too_long = PassesLimit used rest
  Refuses values used rest cut = IsCut used rest
  Refuses values used rest (objected why) = IsObjectedTo values used rest why

  -- The input is not accepted, its longest accepted prefix has `number` - 1 records, and the next
  -- record is rejected.
  pub record IsFirstRefusal (whole : List ℕ) (number : ℕ) (why : Reason) : Type 0 where
    pub values : List j.Value
    pub front : List ℕ
    pub rest : List ℕ
    pub split : whole ≡ front ++ rest
    pub accepted : j.IsAccepted front values
    pub longest : (other more : List ℕ) (others : List j.Value) → whole ≡ other ++ more
        → j.IsAccepted other others → length other ≤ length front
    pub is_number : number ≡ length values + 1
    pub not_accepted : (others : List j.Value) → j.IsAccepted whole others → ⊥
    pub refuses : Refuses values (length front) rest why
