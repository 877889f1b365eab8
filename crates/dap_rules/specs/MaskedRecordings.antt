-- The result of masking a recording, and all guarantees about it. Source: own.
use Rattle.std.specs.{Prelude.{◌≡◌, ◌↔◌, ℕ, List, []}, List.{AllZip, AllByRecursion}}
use Rattle.dap_message.specs.Message.{Sent, IsTyped}
use Rattle.dap_rename.specs.{Messages.AreSame, Modes.stop_in, declared.mode.Mode.Mode}
use Rattle.dap_mask.specs.{Mask.Mask, Masked.AgreeBut, Promises.IsRedactedAs, Rules.Rule}
use Rattle.dap_mask.specs.{Redacted.AgreeOutside}
use Rattle.dap_words.specs.{Words.Pair, Worded.worded_message}
use Rattle.dap_input.specs.declared.limits.Limits.{Limits}
use Rattle.dap_recording.specs.Recording.{IsRecording}
use Rattle.dap_normalise.specs.{Accepting.Payload, Normalising.Normalises}
use Rattle.dap_rules.specs.{Masking.{IsAccepted, kept, left_of, masked_text}, Naming.AreMessages}

-- The recording is accepted, and `written` is the text of its masked messages.
pub record Masks (limits : Limits) (mask : Mask) (bytes written : List ℕ) : Type 0 where
  pub messages : List Sent
  pub accepts : IsAccepted limits mask bytes messages
  pub text_is : written ≡ masked_text mask messages

-- `new` is `old` redacted by the mask, on the same side.
pub record IsMasked (mask : Mask) (old new : Sent) : Type 0 where
  pub side : new.side ≡ old.side
  pub doc : IsRedactedAs mask old.doc new.doc

-- The two messages have the same side, and are equal except for the values that the rules remove.
abbrev pub Agree : List Rule → Sent → Sent → Type 0
Agree rules one other = (one.side ≡ other.side) × AgreeBut rules one.doc other.doc

-- The two messages have the same side, and are equal except for the values that the rules remove
-- and the elements that they omit.
abbrev pub AgreeBy : Mask → Sent → Sent → Type 0
AgreeBy mask one other = (one.side ≡ other.side) × AgreeOutside mask one.doc other.doc

-- `new` is `old` typed, on the same side.
abbrev pub IsTypedAs : Sent → Sent → Type 0
IsTypedAs old new = (new.side ≡ old.side) × IsTyped old.side old.doc new.doc

-- The mask with other words.
abbrev pub with_words : List Pair → Mask → Mask
with_words words mask = record mask { words = words }

-- No text of the words is left in the messages: the words change nothing.
abbrev pub HaveNoText : List Pair → List Sent → Type 0
HaveNoText words messages =
    AllByRecursion (λ message. worded_message words message.doc ≡ message.doc) messages

-- `written` is the masked recording, with all guarantees about it. Its messages have the words of
-- the mask in the place of texts.
pub record IsMaskedTo (limits : Limits) (mask : Mask) (bytes written : List ℕ) : Type 0 where
  pub masks : Masks limits mask bytes written
  -- Only the values that the rules name are changed, and only the elements that they name are
  -- omitted: the messages that no rule drops are masked, in their order.
  pub places : AllZip (IsMasked mask) (kept mask masks.messages) (left_of mask masks.messages)
  -- The records of the output contain the masked messages. Their numbers are integers of 64 bits.
  pub records : List Payload
  pub recording : IsRecording limits.frame written records
  pub read : AreMessages records (left_of mask masks.messages)
  -- Masking the output again by the rules leaves it unchanged. With the words it is unchanged too,
  -- if the rules left no text of the words: a rule such as `digits` can write one.
  pub again : Masks limits (with_words [] mask) written written
  pub only : (other : List ℕ) → Masks limits (with_words [] mask) written other
      → other ≡ written
  pub again_with_words : HaveNoText mask.words (left_of mask masks.messages)
      → Masks limits mask written written
  -- Another recording has equal output if and only if the messages of the two that are not dropped
  -- agree pairwise. If the rules omit no elements, the messages differ only in values that the
  -- rules remove.
  pub equal : (others other : List ℕ) (b : Masks limits mask others other) → (written ≡ other)
      ↔ AllZip (AgreeBy mask) (kept mask masks.messages) (kept mask b.messages)
  pub equal_values : mask.omissions ≡ [] → (others other : List ℕ)
      (b : Masks limits mask others other) → (written ≡ other)
      ↔ AllZip (Agree mask.changes) (kept mask masks.messages) (kept mask b.messages)
  -- If the output is normalised, in any mode, its messages are the masked ones, typed. The normal
  -- form of another masked recording is equal if and only if a renaming maps the messages of one to
  -- those of the other.
  pub typed : (mode : Mode) (normal : List ℕ) (n : Normalises limits mode written normal)
      → AllZip IsTypedAs (left_of mask masks.messages) n.messages
  pub forms : (mode : Mode) (others other normal also : List ℕ) → Masks limits mask others other
      → (n : Normalises limits mode written normal) (k : Normalises limits mode other also)
      → (normal ≡ also) ↔ AreSame (stop_in mode) n.messages k.messages
