-- The verdict on the messages of two recordings, and the records that are stored if they differ.
-- Source: own.
use Rattle.std.specs.Prelude.{◌≡◌, ℕ, suc, ◌-◌, ◌<◌, List, [], ◌∷◌, ◌++◌, length, take, Option}
use Rattle.std.specs.{Prelude.{Some, None}, Option.option_map_or}
use Rattle.dap_message.specs.Message.{Sent}
use Rattle.dap_rename.specs.{Messages.{AreSame, IsNormal, equal_places}, Modes.stop_in}
use Rattle.dap_rename.specs.{Pairs.entries, Renaming.pairs_of, declared.mode.Mode.Mode}
use Rattle.dap_input.specs.declared.limits.Limits.{Limits}
use Rattle.dap_normalise.specs.{Accepting.IsAccepted, JudgingSteps.record_of}
use Rattle.dap_compare.specs.declared.verdict.Verdict.{Verdict as CodeVerdict}
use Rattle.dap_compare.specs.declared.verdict.Verdict.TheVariants as code

-- Some accepted recording has these messages.
abbrev pub AreAccepted : Limits → Mode → List Sent → Type 0
AreAccepted limits mode messages = (bytes : List ℕ) × IsAccepted limits mode bytes messages

-- The messages before the one with this number are the same, and those up to it are not. If a list
-- has fewer messages, all of its messages are up to it.
pub record DifferFirstAt (mode : Mode) (of_a of_b : List Sent) (number : ℕ) : Type 0 where
  pub before : AreSame (stop_in mode) (take (number - 1) of_a) (take (number - 1) of_b)
  pub differ : AreSame (stop_in mode) (take number of_a) (take number of_b) → ⊥

-- The verdict on two lists of messages.
abbrev pub IsVerdictOn : Mode → List Sent → List Sent → CodeVerdict → Type 0
IsVerdictOn mode of_a of_b (code.Same renaming) = AreSame (stop_in mode) of_a of_b
    × (entries (pairs_of renaming) ≡ equal_places (stop_in mode) of_a of_b)
IsVerdictOn mode of_a of_b (code.Differ number) = DifferFirstAt mode of_a of_b number

-- The message with this number, counted from 1, in the normal form of these messages. There is none
-- if there are fewer messages.
abbrev pub IsNumbered : Mode → List Sent → ℕ → Option Sent → Type 0
IsNumbered mode messages number None = length messages < number
IsNumbered mode messages number (Some named) = (normal : List Sent)
    × (suc (length normal) ≡ number)
    × IsNormal (stop_in mode) (take number messages) (normal ++ named ∷ [])

-- The text is the record of that message. It is empty if there is none.
abbrev pub IsTextOfNumber : Mode → List Sent → ℕ → List ℕ → Type 0
IsTextOfNumber mode messages number text = (found : Option Sent)
    × IsNumbered mode messages number found × (text ≡ option_map_or record_of found [])

-- If the messages differ, the text is that of the first message that differs.
abbrev pub HasText : Mode → List Sent → CodeVerdict → List ℕ → Type 0
HasText mode messages (code.Same renaming) text = Unit {0}
HasText mode messages (code.Differ number) text = IsTextOfNumber mode messages number text
