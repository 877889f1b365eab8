-- The records of a recording: their numbers, messages and heads. Source: own.
use Rattle.std.specs.Prelude.{◌≡◌, ℕ, suc, cond, List, [], ◌∷◌, None, string_bytes}
use Rattle.dap_message.specs.Message.{Sent}
use Rattle.dap_rename.specs.{Modes.is_stopped, declared.mode.Mode.Mode}
use Rattle.dap_rename.specs.declared.mode.Mode.TheVariants.{Whole, PerStop}
use Rattle.dap_diff.specs.{Diffs.head_text, declared.entry.Entry.Entry}

-- ---- stops

-- The number of the last stop after a record with this number and this message, if it was `stop`
-- before. With `PerStop`, the numbering of frame ids and variables references restarts there.
abbrev pub stop_after : Mode → ℕ → Sent → ℕ → ℕ
stop_after Whole number m stop = stop
stop_after PerStop number m stop = cond (is_stopped m) number stop

-- ---- records

-- `sent` is the message that the value in a record represents.
module _ {M : Type 0} (sent : M → Sent) where
  -- The record of this message has this number and follows this stop. It has no counterpart yet.
  pub record IsEntryOf (stop number : ℕ) (message : Sent) (entry : Entry M) : Type 0 where
    pub number_is : entry.number ≡ number
    pub stop_is : entry.stop ≡ stop
    pub message_is : sent entry.message ≡ message
    pub head_is : string_bytes entry.head ≡ head_text message
    pub alone : entry.counterpart ≡ None

  -- The records are those of the messages, in their order, numbered from this number on.
  abbrev pub AreEntriesOf : Mode → ℕ → ℕ → List Sent → List (Entry M) → Type 0
  AreEntriesOf mode stop number [] [] = Unit {0}
  AreEntriesOf mode stop number [] (e ∷ es) = ⊥
  AreEntriesOf mode stop number (m ∷ ms) [] = ⊥
  AreEntriesOf mode stop number (m ∷ ms) (e ∷ es) =
      IsEntryOf stop number m e
      × AreEntriesOf mode (stop_after mode number m stop) (suc number) ms es
