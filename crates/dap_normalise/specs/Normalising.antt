-- The output of normalising a recording, and its laws. Source: own.
use Rattle.std.specs.Prelude.{◌≡◌, ◌↔◌, ℕ, List}
use Rattle.dap_message.specs.Message.{Sent}
use Rattle.dap_rename.specs.{Messages.{AreSame, IsNormal}, Modes.stop_in, declared.mode.Mode.Mode}
use Rattle.dap_rename.specs.declared.mode.Mode.TheVariants.{Whole}
use Rattle.dap_input.specs.{declared.limits.Limits.Limits, declared.refused.Refused.Refused}
use Rattle.dap_input.specs.{declared.refused.Refused.TheVariants.Memory, Limits.AreSound}
use Rattle.dap_input.specs.Refusals.{IsRefused}
use Rattle.dap_normalise.specs.Accepting.{IsAccepted, accepting, text}

-- The recording is accepted, and the output is the text of the normal form of its messages in this
-- mode.
pub record Normalises (limits : Limits) (mode : Mode) (bytes written : List ℕ) : Type 0 where
  pub messages : List Sent
  pub accepts : IsAccepted limits mode bytes messages
  pub normal : List Sent
  pub is_normal : IsNormal (stop_in mode) messages normal
  pub text_is : written ≡ text normal

-- The output of normalising a recording, and all guarantees about it.
pub record IsCanonical (limits : Limits) (mode : Mode) (bytes written : List ℕ) : Type 0 where
  pub normalises : Normalises limits mode bytes written
  -- The output is accepted, and its messages are a renaming of those of the recording.
  pub accepted : IsAccepted limits mode written normalises.normal
  pub renamed : AreSame (stop_in mode) normalises.messages normalises.normal
  -- Normalising the output does not change it.
  pub again : Normalises limits mode written written
  pub only : (other : List ℕ) → Normalises limits mode written other → other ≡ written
  -- Another recording has the same output if and only if some renaming maps the messages of this
  -- recording to those of the other.
  pub tells : (others other : List ℕ) (b : Normalises limits mode others other) → (written ≡ other)
      ↔ AreSame (stop_in mode) normalises.messages b.messages

-- The bytes are rejected for this reason, or an allocation failed. Readers and writers are not
-- involved.
abbrev pub RefusesBytes : Limits → Mode → List ℕ → Refused → Type 0
RefusesBytes limits mode bytes Memory = Unit {0}
RefusesBytes limits mode bytes refused = IsRefused (accepting limits mode) bytes refused

-- An accepted recording has exactly one normal form.
abbrev pub HasOneNormalForm : Type 0
HasOneNormalForm = (limits : Limits) (mode : Mode) → AreSound limits → (bytes : List ℕ) (messages :
    List Sent)
    → IsAccepted limits mode bytes messages →
    (normal : List Sent) × IsNormal (stop_in mode) messages normal
    × ((other : List Sent) → IsNormal (stop_in mode) messages other → other ≡ normal)

-- The text of the normal form is accepted under the same limits, and its messages are those of the
-- normal form. These are a renaming of the messages of the recording.
abbrev pub NormalIsAccepted : Type 0
NormalIsAccepted = (limits : Limits) (mode : Mode) → AreSound limits
    → (bytes : List ℕ) (messages normal : List Sent) → IsAccepted limits mode bytes messages
    → IsNormal (stop_in mode) messages normal →
    IsAccepted limits mode (text normal) normal × AreSame (stop_in mode) messages normal

-- A recording has an output if and only if it is accepted, and it has at most one.
abbrev pub AcceptedIsNormalised : Type 0
AcceptedIsNormalised = (limits : Limits) (mode : Mode) → AreSound limits → (bytes : List ℕ)
    → ((messages : List Sent) × IsAccepted limits mode bytes messages)
    ↔ ((written : List ℕ) × Normalises limits mode bytes written)

abbrev pub OneNormalText : Type 0
OneNormalText = (limits : Limits) (mode : Mode) → AreSound limits → (bytes written other : List ℕ)
    → Normalises limits mode bytes written → Normalises limits mode bytes other → written ≡ other

-- Normalising the output does not change it.
abbrev pub NormalisingIsIdempotent : Type 0
NormalisingIsIdempotent = (limits : Limits) (mode : Mode) → AreSound limits
    → (bytes written : List ℕ)
    → Normalises limits mode bytes written → Normalises limits mode written written

-- An output in the mode `Whole` normalises, in any mode, to the output of its recording in that
-- mode, if both modes accept the recording.
abbrev pub WholeTextIsNormalised : Type 0
WholeTextIsNormalised = (limits : Limits) (mode : Mode) → AreSound limits
    → (bytes whole written : List ℕ) → Normalises limits Whole bytes whole
    → Normalises limits mode bytes written → Normalises limits mode whole written

-- Two accepted recordings have equal output if and only if some renaming maps the messages of the
-- first to those of the second.
abbrev pub EqualTextsIffSame : Type 0
EqualTextsIffSame = (limits : Limits) (mode : Mode) → AreSound limits
    → (bytes others written other : List ℕ) (a : Normalises limits mode bytes written)
    (b : Normalises limits mode others other) →
    (written ≡ other) ↔ AreSame (stop_in mode) a.messages b.messages
