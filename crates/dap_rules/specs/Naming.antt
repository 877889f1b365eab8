-- The named messages of a recording, the text that they are written as, and the first error for
-- which a recording is rejected. Source: own, over recordings and the declared ids of messages.
use Rattle.std.specs.Prelude.{◌≡◌, ℕ, ◌≤◌, List, [], ◌∷◌, ◌++◌, length}
use Rattle.dap_tree.specs.Json.{HasFraction, HasNoReading, IsRead}
use Rattle.dap_message.specs.Message.{Sent, no_reading, fraction}
use Rattle.dap_recording.specs.Recording.{IsRecording, records}
use Rattle.dap_mask.specs.Declarations.{Declaration}
use Rattle.dap_naming.specs.Sessions.{AreFew, HasTooMany, declared_ids, named_sents}
use Rattle.dap_input.specs.{declared.limits.Limits.Limits, Limits.AreSound}
use Rattle.dap_input.specs.Validation.{Validation, ContentError, no_message, too_many_ids, grew}
use Rattle.dap_input.specs.{ReadTo.{IsBounded, IsReadTo}, Refusals.{HasOneOutcome, RefusalStays}}
use Rattle.dap_normalise.specs.Accepting.{Payload, Fits, text}

-- The content of the record is JSON whose numbers are integers of 64 bits, and `message` is the
-- message that its side sent.
abbrev pub IsMessage : Payload → Sent → Type 0
IsMessage held message = (message.side ≡ held.0) × IsRead held.1 message.doc

-- The records contain these messages, in order.
abbrev pub AreMessages : List Payload → List Sent → Type 0
AreMessages [] [] = Unit {0}
AreMessages [] (message ∷ messages) = ⊥
AreMessages (held ∷ records) [] = ⊥
AreMessages (held ∷ records) (message ∷ messages) = IsMessage held message
    × AreMessages records messages

-- The text of the messages after naming.
abbrev pub named_text : List Declaration → List Sent → List ℕ
named_text declared messages = text (named_sents declared messages)

-- ---- accepted and rejected recordings

-- The bytes are a recording of these messages within the limits. No label has more values than the
-- limit of ids, and the named messages can be written within the limits.
pub record IsAccepted (limits : Limits) (declared : List Declaration) (bytes : List ℕ)
    (messages : List Sent) : Type 0 where
  pub short : length bytes ≤ limits.input
  pub records : List Payload
  pub recording : IsRecording limits.frame bytes records
  pub read : AreMessages records messages
  pub few : AreFew limits.ids (declared_ids declared messages)
  pub fits : Fits limits (named_sents declared messages)

-- The message in the record `held` is accepted after these messages.
pub record IsNext (limits : Limits) (declared : List Declaration) (before : List Sent)
    (held : Payload) (message : Sent) : Type 0 where
  pub is_message : IsMessage held message
  pub few : AreFew limits.ids (declared_ids declared (before ++ message ∷ []))
  pub fits : Fits limits (named_sents declared (before ++ message ∷ []))

-- After these messages, the record `held` is rejected for this reason. The reasons are checked in
-- this order.
abbrev pub Rejects : Limits → List Declaration → List Sent → Payload → ContentError → Type 0
Rejects limits declared before held (no_message no_reading) = HasNoReading held.1
Rejects limits declared before held (no_message fraction) = HasFraction held.1
Rejects limits declared before held too_many_ids = (message : Sent) × IsMessage held message
    × HasTooMany limits.ids (declared_ids declared (before ++ message ∷ []))
Rejects limits declared before held grew = (message : Sent) × IsMessage held message
    × AreFew limits.ids (declared_ids declared (before ++ message ∷ []))
    × (Fits limits (named_sents declared (before ++ message ∷ [])) → ⊥)
Rejects limits declared before held why = ⊥

-- Recordings as `name` checks them.
abbrev pub naming : Limits → List Declaration → Validation
naming limits declared = record {
  Payload = Payload;
  Value = Sent;
  input = limits.input;
  records = records limits.frame;
  IsNext = IsNext limits declared;
  Rejects = Rejects limits declared;
  IsAccepted = IsAccepted limits declared;
}

-- ---- the text

-- The recording is accepted, and `written` is the text of its named messages.
pub record Names (limits : Limits) (declared : List Declaration)
    (bytes written : List ℕ) : Type 0 where
  pub messages : List Sent
  pub accepts : IsAccepted limits declared bytes messages
  pub text_is : written ≡ named_text declared messages

-- ---- the statements of the functions in `name_laws`

-- A recording is accepted as exactly one list of messages, or rejected for exactly one reason,
-- never both.
abbrev pub NameHasOneOutcome : Type 0
NameHasOneOutcome = (limits : Limits) → AreSound limits → (declared : List Declaration)
    → HasOneOutcome (naming limits declared)

-- A rejection remains when more bytes follow, unless the record was only incomplete.
abbrev pub NameRefusalStays : Type 0
NameRefusalStays = (limits : Limits) → AreSound limits → (declared : List Declaration)
    → RefusalStays (naming limits declared)

-- If no more was read than a record requires, the number of bytes read past it is bounded.
abbrev pub NameReadingIsBounded : Type 0
NameReadingIsBounded = (limits : Limits) (declared : List Declaration) (bytes : List ℕ)
    (number : ℕ) → IsReadTo (naming limits declared) bytes number
    → IsBounded (naming limits declared) bytes number

-- A recording is named to at most one text.
abbrev pub OneNamedText : Type 0
OneNamedText = (limits : Limits) (declared : List Declaration) (bytes written other : List ℕ)
    → Names limits declared bytes written → Names limits declared bytes other → written ≡ other
