-- When a recording is accepted, the text of its normal form, and the first error of a recording.
-- Source: own, over the messages of the DAP specification, the session rules, and recordings.
use Rattle.std.specs.Prelude.{◌≡◌, ℕ, ◌≤◌, List, [], ◌∷◌, ◌++◌, length, Some, None}
use Rattle.std.specs.List.{flat_map, AllByRecursion}
use Rattle.dap_tree.specs.{Json.text_of, declared.side.Side.Side, declared.sort.Sort.Sort}
use Rattle.dap_profile.specs.{Profile.profile, ProfileRows.ProfileRow}
use Rattle.dap_message.specs.Message.{Sent, IsTypedContentByRows, HasRefusal}
use Rattle.dap_recording.specs.Recording.{IsRecording, record_text, records}
use Rattle.dap_rename.specs.{Messages.{HasFewIds, HasTooManyIds, IsNormal}, Modes.stop_in}
use Rattle.dap_rename.specs.declared.mode.Mode.{Mode}
use Rattle.dap_session.specs.Rules.{KeepsRules, first_broken}
use Rattle.dap_input.specs.{declared.limits.Limits.Limits, Limits.AreSound}
use Rattle.dap_input.specs.Validation.{Validation, ContentError, no_message, broken, too_many_ids}
use Rattle.dap_input.specs.{Validation.grew, ReadTo.{IsBounded, IsReadTo}}
use Rattle.dap_input.specs.Refusals.{HasOneOutcome, RefusalStays}

-- the payload of a record: the side that sent it, and its content
abbrev pub Payload : Type 0
Payload = Side × List ℕ

-- By these rows, the content of the record is that of this message from its side.
abbrev pub IsMessageByRows : List ProfileRow → Payload → Sent → Type 0
IsMessageByRows rows held message = (message.side ≡ held.0)
    × IsTypedContentByRows rows held.0 held.1 message.doc

-- The same by the profile.
abbrev pub IsMessage : Payload → Sent → Type 0
IsMessage = IsMessageByRows profile

-- The content of the record is not a message, for this reason.
abbrev pub HoldsNoMessage : Payload → ContentError → Type 0
HoldsNoMessage held (no_message why) = HasRefusal held.1 why
HoldsNoMessage held why = ⊥

-- The contents of the records are these messages, in order.
abbrev pub AreMessagesByRows : List ProfileRow → List Payload → List Sent → Type 0
AreMessagesByRows rows [] [] = Unit {0}
AreMessagesByRows rows [] (message ∷ messages) = ⊥
AreMessagesByRows rows (held ∷ records) [] = ⊥
AreMessagesByRows rows (held ∷ records) (message ∷ messages) = IsMessageByRows rows held message
    × AreMessagesByRows rows records messages

abbrev pub AreMessages : List Payload → List Sent → Type 0
AreMessages = AreMessagesByRows profile

-- The text of the messages (own): the records of their canonical contents.
abbrev pub text : List Sent → List ℕ
text messages = flat_map (λ message. record_text message.side (text_of message.doc)) messages

-- The text of the messages does not exceed the input limit, and no content exceeds the content
-- limit.
pub record Fits (limits : Limits) (messages : List Sent) : Type 0 where
  pub each : AllByRecursion (λ message. length (text_of message.doc)
      ≤ limits.frame.content) messages
  pub whole : length (text messages) ≤ limits.input

-- the maximum number of distinct ids in a class of a kind
abbrev pub id_limit : Limits → Sort → ℕ
id_limit limits sort = limits.ids

-- The normal form of the messages does not exceed the limits.
abbrev pub NormalFits : Limits → Mode → List Sent → Type 0
NormalFits limits mode messages = (normal : List Sent) → IsNormal (stop_in mode) messages normal
    → Fits limits normal

-- The normal form of the messages exceeds a limit.
pub record HasGrown (limits : Limits) (mode : Mode) (messages : List Sent) : Type 0 where
  pub normal : List Sent
  pub is_normal : IsNormal (stop_in mode) messages normal
  pub too_long : Fits limits normal → ⊥

-- The bytes are a recording of these messages, typed by these rows, within the limits. The messages
-- obey the session rules and have few ids in each class of the mode, and their normal form does not
-- exceed the limits.
pub record IsAcceptedByRows (rows : List ProfileRow) (limits : Limits) (mode : Mode) (bytes : List
    ℕ)
    (messages : List Sent) : Type 0 where
  pub short : length bytes ≤ limits.input
  pub records : List Payload
  pub recording : IsRecording limits.frame bytes records
  pub typed : AreMessagesByRows rows records messages
  pub rules : KeepsRules messages
  pub few : HasFewIds (stop_in mode) (id_limit limits) messages
  pub fits : NormalFits limits mode messages

-- The same by the profile.
abbrev pub IsAccepted : Limits → Mode → List ℕ → List Sent → Type 0
IsAccepted = IsAcceptedByRows profile

-- The message of the record is accepted after these messages.
pub record IsNext (limits : Limits) (mode : Mode) (before : List Sent) (held : Payload) (message :
    Sent) : Type 0
  where
    pub is_message : IsMessage held message
    pub keeps : first_broken before message ≡ None
    pub few : HasFewIds (stop_in mode) (id_limit limits) (before ++ message ∷ [])
    pub fits : NormalFits limits mode (before ++ message ∷ [])

-- After these messages, the record is rejected for this reason. The reasons are checked in this
-- order.
abbrev pub Rejects : Limits → Mode → List Sent → Payload → ContentError → Type 0
Rejects limits mode before held (no_message why) = HasRefusal held.1 why
Rejects limits mode before held (broken rule) = (message : Sent) × IsMessage held message
    × (first_broken before message ≡ Some rule)
Rejects limits mode before held too_many_ids =
    (message : Sent) × IsMessage held message × (first_broken before message ≡ None)
    × HasTooManyIds (stop_in mode) (id_limit limits) (before ++ message ∷ [])
Rejects limits mode before held grew =
    (message : Sent) × IsMessage held message × (first_broken before message ≡ None)
    × HasFewIds (stop_in mode) (id_limit limits) (before ++ message ∷ [])
    × HasGrown limits mode (before ++ message ∷ [])

-- the rules by which recordings are checked
abbrev pub accepting : Limits → Mode → Validation
accepting limits mode = record {
  Payload = Payload;
  Value = Sent;
  input = limits.input;
  records = records limits.frame;
  IsNext = IsNext limits mode;
  Rejects = Rejects limits mode;
  IsAccepted = IsAccepted limits mode;
}

-- An input is either accepted as exactly one list of messages, or rejected for exactly one error.
abbrev pub RecordingHasOneOutcome : Type 0
RecordingHasOneOutcome = (limits : Limits) (mode : Mode) → AreSound limits → HasOneOutcome
    (accepting limits mode)

-- An error remains when more bytes follow, unless the record was only truncated.
abbrev pub RecordingRefusalStays : Type 0
RecordingRefusalStays = (limits : Limits) (mode : Mode) → AreSound limits → RefusalStays (accepting
    limits mode)

-- If no more was read than a record requires, the number of bytes read is bounded.
abbrev pub ReadingIsBounded : Type 0
ReadingIsBounded = (limits : Limits) (mode : Mode) → (bytes : List ℕ) (number : ℕ)
    → IsReadTo (accepting limits mode) bytes number → IsBounded (accepting limits mode) bytes number
