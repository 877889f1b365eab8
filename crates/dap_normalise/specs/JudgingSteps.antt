-- The effect of checking a record.
use Rattle.std.specs.Prelude.{◌≡◌, ◌⊎◌, ℕ, ◌+◌, ◌<◌, ◌≤◌, ℤ, List, [], ◌∷◌, ◌++◌, length, Result}
use Rattle.std.specs.Prelude.{Ok, Err}
use Rattle.dap_tree.specs.{Json.text_of, declared.sort.Sort.Sort}
use Rattle.dap_message.specs.Message.{Sent}
use Rattle.dap_recording.specs.Recording.{record_text}
use Rattle.dap_recording.specs.declared.record.Record.{Record as WholeRecord}
use Rattle.dap_rename.specs.{Messages.{AreProper, IsNormal}, Modes.stop_in}
use Rattle.dap_rename.specs.{Names.{Represents, limit_in, mode_of}, declared.mode.Mode.Mode}
use Rattle.dap_session.specs.Representation.{Represents as SessionRepresents}
use Rattle.dap_normalise.specs.declared.judging.Judge.{Judge}
use Rattle.dap_normalise.specs.Accepting.{Payload, Fits, IsMessage, IsNext, Rejects, text}
use Rattle.dap_input.specs.{declared.limits.Limits.Limits, declared.refused.Refused.Refused}
use Rattle.dap_input.specs.declared.refused.Refused.TheVariants.{Grew, Memory}
use Rattle.dap_input.specs.Refusals.{RejectsPayload}

-- the payload of a record
abbrev pub payload_of : WholeRecord → Payload
payload_of whole = (whole.side, whole.content)

abbrev pub judge_limits : {T : Type 0} → Judge T → Limits
judge_limits judge = judge.limits

-- the mode of its canonical numbers
abbrev pub judge_mode : {T : Type 0} → Judge T → Mode
judge_mode judge = mode_of judge.names

module _ {T : Type 0} (numbers : T → List ℤ) (table_limit : T → ℕ) where
  -- Abstraction relation: the state represents these messages, with this normal form. Its session
  -- and its canonical numbers represent them, and it knows the length of the text.
  pub record RepresentsMessages (judge : Judge T) (messages normal : List Sent) : Type 0 where
    pub session : SessionRepresents judge.session messages
    pub names : Represents numbers table_limit judge.names messages
    pub name_limits : (s : Sort) → limit_in table_limit judge.names s ≡ judge.limits.ids
    pub proper : AreProper messages
    pub is_normal : IsNormal (stop_in (judge_mode judge)) messages normal
    pub fits : Fits judge.limits normal
    pub written : judge.written ≡ length (text normal)

-- the record of a message
abbrev pub record_of : Sent → List ℕ
record_of message = record_text message.side (text_of message.doc)

-- The record of the message is appended to the old bytes. The result is the length of the complete
-- text, of which `written` bytes precede the record. Or a limit is exceeded.
abbrev pub Writes : Limits → Sent → ℕ → ℕ → List ℕ → List ℕ → Result ℕ Refused → Type 0
Writes limits message n written old new (Ok after) =
    (length (text_of message.doc) ≤ limits.frame.content) × (new ≡ old ++ record_of message)
    × (after ≡ written + length (record_of message)) × (after ≤ limits.input)
Writes limits message n written old new (Err (Grew m)) =
    (m ≡ n) × ((limits.frame.content < length (text_of message.doc))
    ⊎ (limits.input < written + length (record_of message)))
Writes limits message n written old new (Err Memory) = Unit {0}
Writes limits message n written old new (Err _) = ⊥

module _ {T : Type 0} (numbers : T → List ℤ) (table_limit : T → ℕ) where
  -- The message of the record is accepted after these messages, the new state represents it too,
  -- and the record of its normal form was appended.
  pub record IsTaken (messages normal : List Sent) (held : Payload) (judge : Judge T)
      (old new : List ℕ) : Type 0 where
    pub message : Sent
    pub is_next : IsNext judge.limits (judge_mode judge) messages held message
    pub named : Sent
    pub represents : RepresentsMessages numbers table_limit judge (messages ++ message ∷ [])
        (normal ++ named
        ∷ [])
    pub appended : new ≡ old ++ record_of named

  -- Record n with this payload is accepted or rejected.
  abbrev pub JudgesRecord : List Sent → List Sent → Payload → ℕ → Judge T → Judge T → List ℕ
      → List ℕ
      → Result (Unit {0}) Refused → Type 0
  JudgesRecord messages normal held n before after old new (Ok done) =
      IsTaken messages normal held after old new
  JudgesRecord messages normal held n before after old new (Err because) =
      RejectsPayload (Rejects before.limits (judge_mode before) messages held) n because

  -- The same if nothing is appended.
  abbrev pub ChecksRecord : List Sent → List Sent → Payload → ℕ → Judge T → Judge T
      → Result (Unit {0}) Refused → Type 0
  ChecksRecord messages normal held n before after (Ok done) =
      (text : List ℕ) × IsTaken messages normal held after [] text
  ChecksRecord messages normal held n before after (Err because) =
      RejectsPayload (Rejects before.limits (judge_mode before) messages held) n because

-- The content of the record is a message, which was appended to the old messages.
abbrev pub AddsMessage : Payload → List Sent → List Sent → Type 0
AddsMessage held old new = (message : Sent) × IsMessage held message
    × (new ≡ old ++ message ∷ [])

-- The messages are the same, or there is one more.
abbrev pub IsSameOrLonger : List Sent → List Sent → Type 0
IsSameOrLonger old new = (new ≡ old) ⊎ ((message : Sent) × (new ≡ old ++ message ∷ []))
