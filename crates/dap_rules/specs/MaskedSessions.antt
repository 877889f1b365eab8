-- The named messages of a masked recording, for private clauses. Source: own.
use Rattle.std.specs.Prelude.{◌≡◌, ℕ, ◌≤◌, Bool, true, false, List, [], ◌∷◌, ◌++◌, length, Option}
use Rattle.std.specs.Prelude.{Some, None, Result, Ok, Err}
use Rattle.std.specs.List.{AllZip}
use Rattle.dap_tree.specs.{Doc.Doc, Json.{IsRead, text_of}}
use Rattle.dap_message.specs.Message.{Sent, HasRefusal, faulty}
use Rattle.dap_message.specs.declared.fault.MessageFault.{MessageFault}
use Rattle.dap_mask.specs.{Declarations.Declaration, Mask.Mask}
use Rattle.dap_naming.specs.Sessions.{AreFew, declared_ids, named_sents, rules_for}
use Rattle.dap_stored.specs.Sessions.{messages_of}
use Rattle.dap_input.specs.{declared.limits.Limits.Limits, declared.refused.Refused.Refused}
use Rattle.dap_input.specs.declared.refused.Refused.TheVariants.{Message}
use Rattle.dap_input.specs.Refusals.{RejectsPayload}
use Rattle.dap_normalise.specs.Accepting.{Payload, AreMessages, Fits, IsMessage, text}
use Rattle.dap_normalise.specs.RecordTexts.{contents_of}
use Rattle.dap_rules.specs.RewritingSteps.{AreNumbered}
use Rattle.dap_rules.specs.Masking.{IsAccepted, IsNext, Rejects, left_of, masked_text}
use Rattle.dap_rules.specs.declared.masked_session.MaskedSession.{MaskedSession}

-- The first ones of the records contain these messages, and the next one is not a message, for this
-- reason.
pub record StopAt (records : List Payload) (messages : List Sent) (fault : MessageFault) : Type 0
  where
    pub before : List Payload
    pub held : Payload
    pub after : List Payload
    pub split : records ≡ before ++ held ∷ after
    pub read : AreMessages before messages
    pub refused : HasRefusal held.1 (faulty fault)

-- The records contain these messages, up to the first record that has the fault, if there is one.
abbrev pub HoldUpTo : List Payload → List Sent → Option MessageFault → Type 0
HoldUpTo records messages None = AreMessages records messages
HoldUpTo records messages (Some fault) = StopAt records messages fault

-- The session has the messages of these records.
abbrev pub Holds : MaskedSession → List Payload → Type 0
Holds session records = HoldUpTo records (messages_of session.messages) session.fault

-- The new session has one record more.
abbrev pub Adds : Payload → MaskedSession → MaskedSession → Type 0
Adds held old new = (records : List Payload) → Holds old records → Holds new (records ++ held ∷ [])

-- The result after the messages, which the record with this number follows.
abbrev pub end_of : ℕ → Option MessageFault → Result (Unit {0}) Refused
end_of number (Some fault) = Err (Message number fault)
end_of number None = Ok tt

-- The messages that the rules leave, with names in the place of their declared ids.
abbrev pub named_left : Mask → List Sent → List Sent
named_left mask messages = named_sents mask.declared (left_of mask messages)

-- If a flag is not set, no declaration applies to its message.
abbrev pub AreRuled : List Declaration → List Sent → List Bool → Type 0
AreRuled declared = AllZip (λ m ruled. ruled ≡ false → rules_for declared m.doc ≡ [])

-- If the flag is not set, no declaration applies to the document of the content.
abbrev pub IsRuled : List Declaration → List ℕ → Bool → Type 0
IsRuled declared content ruled =
    (d : Doc) → IsRead content d → ruled ≡ false → rules_for declared d ≡ []

-- The record contains the last one of the messages.
pub record ContainsLast (held : Payload) (messages : List Sent) : Type 0 where
  pub before : List Sent
  pub last : Sent
  pub split : messages ≡ before ++ last ∷ []
  pub is_message : IsMessage held last

-- Without a fault, the record contains the last message of the session.
abbrev pub IsLast : Payload → MaskedSession → Type 0
IsLast held session = session.fault ≡ None → ContainsLast held (messages_of session.messages)

-- The text of the document has at most this number of bytes, and the text of some document has
-- exactly this number.
pub record IsBoundOf (d : Doc) (most : ℕ) : Type 0 where
  pub longer : Doc
  pub len : length (text_of longer) ≡ most
  pub bound : length (text_of d) ≤ most

-- The new session has one record more, which is the last one. If the record is stored as a message,
-- so is this flag.
pub record AddsRuled (held : Payload) (ruled : Bool) (old new : MaskedSession) : Type 0 where
  pub adds : Adds held old new
  pub last : IsLast held new
  pub flags : (declared : List Declaration) → IsRuled declared held.1 ruled
      → AreRuled declared (messages_of old.messages) old.ruled.items
      → AreRuled declared (messages_of new.messages) new.ruled.items
  pub numbers : new.numbers ≡ old.numbers
  pub named_bytes : new.named_bytes ≡ old.named_bytes

-- The same, or the session is unchanged.
abbrev pub AddsIf : Payload → Bool → MaskedSession → MaskedSession → Bool → Type 0
AddsIf held ruled old new true = AddsRuled held ruled old new
AddsIf held ruled old new false = new ≡ old

-- These messages are named, and in the session. Its `named_bytes` is an upper bound on the length
-- of their text, and within the limit.
pub record RepresentsNamed (limits : Limits) (declared : List Declaration) (messages : List Sent)
    (session : MaskedSession) : Type 0 where
  pub numbered : AreNumbered limits declared messages session.numbers
  pub fits : Fits limits (named_sents declared messages)
  pub count : length (text (named_sents declared messages)) ≤ session.named_bytes
  pub within : session.named_bytes ≤ limits.input
  pub holds : Holds session (contents_of (named_sents declared messages))
  pub ruled : AreRuled declared (messages_of session.messages) session.ruled.items

-- The message is named after those of the old session, and is in the new session.
abbrev pub AddsNamed : Limits → List Declaration → Sent → MaskedSession → MaskedSession → Type 0
AddsNamed limits declared m old new = (before : List Sent)
    → RepresentsNamed limits declared before old
    → RepresentsNamed limits declared (before ++ m ∷ []) new

-- The same, or the new session represents the messages of the old one.
abbrev pub AddsNamedIf : Limits → List Declaration → Sent → MaskedSession → MaskedSession → Bool
    → Type 0
AddsNamedIf limits declared m old new true = AddsNamed limits declared m old new
AddsNamedIf limits declared m old new false = (before : List Sent)
    → RepresentsNamed limits declared before old → RepresentsNamed limits declared before new

-- These messages of the recording are masked and named, and in the session. Their masked text has
-- `written` bytes. The session's `named_bytes` is an upper bound on the length of their text with
-- names, and within the limit.
pub record RepresentsMasked (limits : Limits) (mask : Mask) (messages : List Sent) (written : ℕ)
    (session : MaskedSession) : Type 0 where
  pub fits : Fits limits (left_of mask messages)
  pub count : written ≡ length (masked_text mask messages)
  pub numbered : AreNumbered limits mask.declared (left_of mask messages) session.numbers
  pub named_fits : Fits limits (named_left mask messages)
  pub named_count : length (text (named_left mask messages)) ≤ session.named_bytes
  pub named_within : session.named_bytes ≤ limits.input
  pub holds : Holds session (contents_of (named_left mask messages))
  pub ruled : AreRuled mask.declared (messages_of session.messages) session.ruled.items

-- After these messages, the record is accepted, and is in the session.
pub record IsPushed (limits : Limits) (mask : Mask) (messages : List Sent) (held : Payload)
    (after : ℕ) (session : MaskedSession) : Type 0 where
  pub message : Sent
  pub is_next : IsNext limits mask messages held message
  pub represents : RepresentsMasked limits mask (messages ++ message ∷ []) after session

-- After these messages, the record with this number is accepted or rejected.
abbrev pub Pushes : Limits → Mask → List Sent → Payload → ℕ → MaskedSession → Result ℕ Refused
    → Type 0
Pushes limits mask messages held n session (Ok after) =
    IsPushed limits mask messages held after session
Pushes limits mask messages held n session (Err because) =
    RejectsPayload (Rejects limits mask messages held) n because

-- The same, or the session represents the same messages.
abbrev pub PushesIf : Limits → Mask → List Sent → Payload → ℕ → ℕ → MaskedSession
    → Result (Option ℕ) Refused → Type 0
PushesIf limits mask messages held n written session (Ok (Some after)) =
    IsPushed limits mask messages held after session
PushesIf limits mask messages held n written session (Ok None) =
    RepresentsMasked limits mask messages written session
PushesIf limits mask messages held n written session (Err because) =
    RejectsPayload (Rejects limits mask messages held) n because

-- The recording is accepted, and the session has its masked messages, with names in the place of
-- their declared ids. The text of the named messages is within the limits, and no label has more
-- values than the limit.
pub record IsMaskedSession (limits : Limits) (mask : Mask) (recording : List ℕ)
    (session : MaskedSession) : Type 0 where
  pub messages : List Sent
  pub accepted : IsAccepted limits mask recording messages
  pub few : AreFew limits.ids (declared_ids mask.declared (left_of mask messages))
  pub fits : Fits limits (named_left mask messages)
  pub holds : Holds session (contents_of (named_left mask messages))
  pub ruled : AreRuled mask.declared (messages_of session.messages) session.ruled.items
