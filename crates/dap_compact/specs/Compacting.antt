-- The inputs that `compact` accepts, its output, and its errors. Source: own, over the frames of
-- the DAP base protocol.
use Rattle.std.specs.Prelude.{◌≡◌, ℕ, ◌≤◌, List, [], ◌∷◌, ◌++◌, length}
use Rattle.std.specs.List.{flat_map, AllByRecursion}
use Rattle.dap_frame.specs.{Frame.{AreFrames, frames, frame_text}, Combinators.map_fault}
use Rattle.dap_message.specs.Message.{no_reading, fraction}
use Rattle.dap_recording.specs.declared.record_fault.RecordCause.TheVariants.{Frame}
use Rattle.dap_tree.specs.{Doc.Doc, Json.{IsRead, HasFraction, HasNoReading, text_of}}
use Rattle.dap_input.specs.{declared.limits.Limits.Limits, Limits.AreSound}
use Rattle.dap_input.specs.Validation.{Validation, ContentError, no_message, grew}
use Rattle.dap_input.specs.Refusals.{HasOneOutcome, RefusalStays}

-- the output for these values: the frames of their canonical contents
abbrev pub text : List Doc → List ℕ
text values = flat_map (λ value. frame_text (text_of value)) values

-- the contents are read as these values
abbrev pub AreRead : List (List ℕ) → List Doc → Type 0
AreRead [] [] = Unit {0}
AreRead [] (value ∷ values) = ⊥
AreRead (content ∷ contents) [] = ⊥
AreRead (content ∷ contents) (value ∷ values) = IsRead content value × AreRead contents values

-- the output does not exceed the input limit, and no content exceeds the content limit
pub record Fits (limits : Limits) (values : List Doc) : Type 0 where
  pub each : AllByRecursion (λ value. length (text_of value) ≤ limits.frame.content) values
  pub whole : length (text values) ≤ limits.input

-- The input consists of frames whose contents are read as these values, and the output for them
-- does not exceed the limits.
pub record IsCompactable (limits : Limits) (whole : List ℕ) (values : List Doc) : Type 0 where
  pub short : length whole ≤ limits.input
  pub contents : List (List ℕ)
  pub frames : AreFrames limits.frame whole contents
  pub read : AreRead contents values
  pub fits : Fits limits values

-- After these values, a content is rejected for this reason, and for no other.
abbrev pub Rejects : Limits → List Doc → List ℕ → ContentError → Type 0
Rejects limits values content (no_message no_reading) = HasNoReading content
Rejects limits values content (no_message fraction) = HasFraction content
Rejects limits values content grew = (value : Doc) × IsRead content value
    × (Fits limits (values ++ value ∷ []) → ⊥)
Rejects limits values content why = ⊥

-- a record is a frame, and a value may follow others if the content is read as it and the output
-- does not exceed the limits
abbrev pub compacting : Limits → Validation
compacting limits = record {
  Payload = List ℕ;
  Value = Doc;
  input = limits.input;
  records = map_fault Frame (frames limits.frame);
  IsNext = λ values content value. IsRead content value × Fits limits (values ++ value ∷ []);
  Rejects = Rejects limits;
  IsAccepted = IsCompactable limits;
}

-- The input has this output.
abbrev pub Compacts : Limits → List ℕ → List ℕ → Type 0
Compacts limits whole written = (values : List Doc) × IsCompactable limits whole values
    × (written ≡ text values)

-- An input is either accepted as exactly one list of values, or rejected for exactly one error.
abbrev pub CompactHasOneOutcome : Type 0
CompactHasOneOutcome = (limits : Limits) → AreSound limits → HasOneOutcome (compacting limits)

-- An error remains when more bytes follow, unless the record was only truncated.
abbrev pub CompactRefusalStays : Type 0
CompactRefusalStays = (limits : Limits) → AreSound limits → RefusalStays (compacting limits)
