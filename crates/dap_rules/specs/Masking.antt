-- The masked messages of a recording, and the first error for which a recording is rejected.
-- Source: own, over recordings and the rules of a mask.
use Rattle.std.specs.Prelude.{◌≡◌, ℕ, ◌≤◌, Bool, true, not, List, [], ◌∷◌, ◌++◌, length, map}
use Rattle.std.specs.List.{filter, AllByRecursion}
use Rattle.dap_tree.specs.{Doc.is_sound, Json.HasNoReading}
use Rattle.dap_message.specs.Message.{Sent, no_reading, fraction}
use Rattle.dap_recording.specs.Recording.{IsRecording, records}
use Rattle.dap_mask.specs.{Loose.IsReadBy, Mask.{Mask, leaves_out}, Redacted.redacted}
use Rattle.dap_input.specs.declared.limits.Limits.{Limits}
use Rattle.dap_input.specs.Validation.{Validation, ContentError, no_message, grew}
use Rattle.dap_normalise.specs.Accepting.{Payload, Fits, text}

-- The content of the record is JSON, and `message` is the message that its side sent, with the
-- words of the mask in the place of texts and the members that its rules set. A number that is not
-- an integer of 64 bits is read as out of range.
abbrev pub IsMessage : Mask → Payload → Sent → Type 0
IsMessage mask held message = (message.side ≡ held.0) × IsReadBy mask held.1 message.doc

-- The records contain these messages, in order.
abbrev pub AreMessages : Mask → List Payload → List Sent → Type 0
AreMessages mask [] [] = Unit {0}
AreMessages mask [] (message ∷ messages) = ⊥
AreMessages mask (held ∷ records) [] = ⊥
AreMessages mask (held ∷ records) (message ∷ messages) = IsMessage mask held message
    × AreMessages mask records messages

-- ---- masked messages

-- No rule drops the message.
abbrev pub is_kept : Mask → Sent → Bool
is_kept mask message = not (leaves_out mask message.doc)

-- The messages that no rule drops, in their order.
abbrev pub kept : Mask → List Sent → List Sent
kept mask messages = filter (is_kept mask) messages

-- The message redacted by the mask, on its side.
abbrev pub mask_message : Mask → Sent → Sent
mask_message mask message =
    record { side = message.side; doc = redacted mask message.doc }

-- The messages after masking.
abbrev pub left_of : Mask → List Sent → List Sent
left_of mask messages = map (mask_message mask) (kept mask messages)

-- The text of the messages after masking.
abbrev pub masked_text : Mask → List Sent → List ℕ
masked_text mask messages = text (left_of mask messages)

-- Each message can be written: all of its numbers are integers of 64 bits.
abbrev pub AreWhole : List Sent → Type 0
AreWhole messages = AllByRecursion (λ message. is_sound message.doc ≡ true) messages

-- ---- accepted and rejected recordings

-- The bytes are a recording of these messages within the limits, and the masked messages can be
-- written within the limits.
pub record IsAccepted (limits : Limits) (mask : Mask) (bytes : List ℕ)
    (messages : List Sent) : Type 0 where
  pub short : length bytes ≤ limits.input
  pub records : List Payload
  pub recording : IsRecording limits.frame bytes records
  pub read : AreMessages mask records messages
  pub whole : AreWhole (left_of mask messages)
  pub fits : Fits limits (left_of mask messages)

-- The message in the record `held` is accepted after these messages.
pub record IsNext (limits : Limits) (mask : Mask) (before : List Sent) (held : Payload)
    (message : Sent) : Type 0 where
  pub is_message : IsMessage mask held message
  pub whole : AreWhole (left_of mask (message ∷ []))
  pub fits : Fits limits (left_of mask (before ++ message ∷ []))

-- After these messages, the record `held` is rejected for this reason. The reasons are checked in
-- this order.
abbrev pub Rejects : Limits → Mask → List Sent → Payload → ContentError → Type 0
Rejects limits mask before held (no_message no_reading) = HasNoReading held.1
Rejects limits mask before held (no_message fraction) =
    (message : Sent) × IsMessage mask held message × (AreWhole (left_of mask (message ∷ [])) → ⊥)
Rejects limits mask before held grew =
    (message : Sent) × IsMessage mask held message × AreWhole (left_of mask (message ∷ []))
    × (Fits limits (left_of mask (before ++ message ∷ [])) → ⊥)
Rejects limits mask before held why = ⊥

-- Recordings as `mask` checks them.
abbrev pub masking : Limits → Mask → Validation
masking limits mask = record {
  Payload = Payload;
  Value = Sent;
  input = limits.input;
  records = records limits.frame;
  IsNext = IsNext limits mask;
  Rejects = Rejects limits mask;
  IsAccepted = IsAccepted limits mask;
}
