-- The text of an ordered recording, and the errors for which a recording is not ordered. Source:
-- own, over recordings, the rules of their sessions, and the order of their messages. The mode is
-- that of the numbering of ids: it determines how many ids a recording may have, and the length of
-- its normal form.
use Rattle.std.specs.Prelude.{◌≡◌, ◌⊎◌, ℕ, ◌+◌, List, [], ◌∷◌, ◌++◌, length}
use Rattle.dap_device.specs.Reading.{HasReadInput, HasReadPartly}
use Rattle.dap_device.specs.declared.device.Source.{Ghosts as Source}
use Rattle.dap_device.specs.declared.reading.Stop.{Stop}
use Rattle.dap_message.specs.{Message.Sent, SwapRules.SwapRule}
use Rattle.dap_rename.specs.{declared.mode.Mode.Mode, declared.mode.Mode.TheVariants.PerStop}
use Rattle.dap_input.specs.{declared.limits.Limits.Limits, declared.refused.Refused.Refused}
use Rattle.dap_input.specs.declared.refused.Refused.TheVariants.{Grew, Memory, TooManyIds}
use Rattle.dap_input.specs.Refusals.{IsRefused}
use Rattle.dap_normalise.specs.Accepting.{Fits, IsAccepted, accepting, text}
use Rattle.dap_normalise.specs.NormalSession.{IsNormalSession}
use Rattle.dap_normalise.specs.declared.normal_session.NormalSession.{NormalSession}
use Rattle.dap_order.specs.MessageOrder.{ordered}

-- A prefix of the input was read, and the reader did not fail. Or the input was read up to its end,
-- to a byte beyond the limit, or to a failure of the reader.
abbrev pub ReadsSomeOrAll : {R : Type 0} → Source R → ℕ → R → R → Type 0
ReadsSomeOrAll source input old new = HasReadPartly source old new input
    ⊎ ((bytes : List ℕ) × (stop : Stop) × HasReadInput source old new input bytes stop)

-- The recording is accepted, and `written` is the text of its messages in order: for each message
-- the record of its canonical content. The text is within the limits, and it is accepted as these
-- messages.
pub record Orders (limits : Limits) (mode : Mode) (rules : List SwapRule)
    (bytes written : List ℕ) : Type 0 where
  pub messages : List Sent
  pub accepts : IsAccepted limits mode bytes messages
  pub text_is : written ≡ text (ordered rules messages)
  pub fits : Fits limits (ordered rules messages)
  pub accepted : IsAccepted limits mode written (ordered rules messages)

-- The recording is put in order, and this is the normal text of its text in order, with its counts.
abbrev pub NormalisesInOrder : Limits → Mode → List SwapRule → List ℕ → NormalSession → Type 0
NormalisesInOrder limits mode rules bytes session = (written : List ℕ)
    × Orders limits mode rules bytes written × IsNormalSession limits mode written session

-- The text of the messages before this one is within the limits, and the text including the message
-- with this number is not.
pub record PassesLimit (limits : Limits) (messages : List Sent) (number : ℕ) : Type 0 where
  pub before : List Sent
  pub message : Sent
  pub after : List Sent
  pub split : messages ≡ before ++ message ∷ after
  pub number_is : number ≡ length before + 1
  pub fits : Fits limits before
  pub too_long : Fits limits (before ++ message ∷ []) → ⊥

-- The possible errors of the text: it or its normal form is too long; or, with `Mode::PerStop`, it
-- has too many ids in a class, because a message that moves past a stop has its ids in another
-- class.
abbrev pub IsTextError : Mode → Refused → Type 0
IsTextError mode (Grew number) = Unit {0}
IsTextError mode (TooManyIds number) = mode ≡ PerStop
IsTextError mode because = ⊥

-- The text of the messages is rejected: it exceeds a limit at the record with this number; or it is
-- within the limits, and this is its first error.
abbrev pub IsTextRefused : Limits → Mode → List Sent → Refused → Type 0
IsTextRefused limits mode messages because =
    ((number : ℕ) × (because ≡ Grew number) × PassesLimit limits messages number)
    ⊎ (Fits limits messages × IsRefused (accepting limits mode) (text messages) because
    × IsTextError mode because)

-- The recording is not ordered: this is its first error; or it is accepted, and this is an error of
-- the text of its messages in order.
abbrev pub IsNotOrdered : Limits → Mode → List SwapRule → List ℕ → Refused → Type 0
IsNotOrdered limits mode rules bytes because =
    IsRefused (accepting limits mode) bytes because
    ⊎ ((messages : List Sent) × IsAccepted limits mode bytes messages
    × IsTextRefused limits mode (ordered rules messages) because)

-- The recording is not ordered for this reason, or an allocation failed.
abbrev pub RefusesToOrder : Limits → Mode → List SwapRule → List ℕ → Refused → Type 0
RefusesToOrder limits mode rules bytes Memory = Unit {0}
RefusesToOrder limits mode rules bytes because = IsNotOrdered limits mode rules bytes because
