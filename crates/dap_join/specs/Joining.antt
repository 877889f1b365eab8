-- The joined text of a recording, and the errors for which a recording is not joined. Source: own.
use Rattle.std.specs.Prelude.{◌≡◌, ℕ, ◌≤◌, List, [], ◌∷◌, ◌++◌, length, map}
use Rattle.dap_recording.specs.Recording.{IsRecording, recording_text, records}
use Rattle.dap_input.specs.{declared.limits.Limits.Limits, declared.refused.Refused.Refused}
use Rattle.dap_input.specs.declared.refused.Refused.TheVariants.{Grew, Memory}
use Rattle.dap_input.specs.{Refusals.IsRefused, Validation.Validation}
use Rattle.dap_normalise.specs.Accepting.{Payload}
use Rattle.dap_normalise.specs.RecordTexts.{FitRecords}
use Rattle.dap_join.specs.Outputs.{AreItems, Item}
use Rattle.dap_join.specs.Joined.{Numbered, joined}
use Rattle.dap_mask.specs.declared.joining.Joining.{Joining}

-- The payloads of joined records, and the numbers of their records in the input.
abbrev pub payloads : List Numbered → List Payload
payloads numbered = map (λ one. one.held) numbered

abbrev pub numbers_of : List Numbered → List ℕ
numbers_of numbered = map (λ one. one.number) numbered

-- ---- joined recordings

-- The bytes are a recording within the limits, and these are the items of its records.
pub record IsSplit (limits : Limits) (bytes : List ℕ) (items : List Item) : Type 0 where
  pub short : length bytes ≤ limits.input
  pub records : List Payload
  pub recording : IsRecording limits.frame bytes records
  pub are_items : AreItems 1 records items

-- The bytes are a recording, and `written` is its text after its output is joined. Each record of
-- that text has the number of the record of the input that it is.
pub record Joins (limits : Limits) (joining : Joining) (bytes written numbers : List ℕ) : Type 0
  where
    pub items : List Item
    pub split : IsSplit limits bytes items
    pub text_is : written ≡ recording_text (payloads (joined joining items))
    pub numbers_are : numbers ≡ numbers_of (joined joining items)
    pub fits : FitRecords limits (payloads (joined joining items))

-- ---- errors

-- The bytes are a recording of these records within the limits.
pub record IsWhole (limits : Limits) (bytes : List ℕ) (held : List Payload) : Type 0 where
  pub short : length bytes ≤ limits.input
  pub recording : IsRecording limits.frame bytes held

-- Recordings of which only the records matter. No content is rejected.
abbrev pub splitting : Limits → Validation
splitting limits = record {
  Payload = Payload;
  Value = Payload;
  input = limits.input;
  records = records limits.frame;
  IsNext = λ before held value. value ≡ held;
  Rejects = λ before held why. ⊥;
  IsAccepted = IsWhole limits;
}

-- The joined records exceed a limit with the record of this number, and not before it.
pub record GrowsAt (limits : Limits) (numbered : List Numbered) (number : ℕ) : Type 0 where
  pub before : List Numbered
  pub one : Numbered
  pub after : List Numbered
  pub is : numbered ≡ before ++ one ∷ after
  pub fits : FitRecords limits (payloads before)
  pub grows : FitRecords limits (payloads (before ++ one ∷ [])) → ⊥
  pub number_is : number ≡ one.number

-- The bytes are a recording, and its joined text exceeds a limit with this record.
abbrev pub HasGrown : Limits → Joining → List ℕ → ℕ → Type 0
HasGrown limits joining bytes number =
    (items : List Item) × IsSplit limits bytes items × GrowsAt limits (joined joining items) number

-- The output of the recording is not joined, for this reason: its first error, or a limit that its
-- joined text exceeds.
abbrev pub IsNotJoined : Limits → Joining → List ℕ → Refused → Type 0
IsNotJoined limits joining bytes (Grew n) = HasGrown limits joining bytes n
IsNotJoined limits joining bytes because = IsRefused (splitting limits) bytes because

-- The same, or an allocation failed.
abbrev pub RefusesToJoin : Limits → Joining → List ℕ → Refused → Type 0
RefusesToJoin limits joining bytes Memory = Unit {0}
RefusesToJoin limits joining bytes because = IsNotJoined limits joining bytes because
