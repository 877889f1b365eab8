-- Two compared recordings. Source: own, over the recordings that the library accepts and considers
-- the same.
use Rattle.std.specs.Prelude.{◌≡◌, ◌↔◌, ◌⊎◌, ℕ, Bool, true, List}
use Rattle.dap_message.specs.Message.{Sent}
use Rattle.dap_rename.specs.Messages.{AreSame}
use Rattle.dap_rename.specs.Modes.{stop_in}
use Rattle.dap_rename.specs.declared.mode.Mode.{Mode}
use Rattle.dap_input.specs.declared.limits.Limits.{Limits}
use Rattle.dap_input.specs.declared.refused.Refused.{Refused}
use Rattle.dap_normalise.specs.Accepting.{IsAccepted}
use Rattle.dap_normalise.specs.Normalising.{RefusesBytes}

-- Both recordings are accepted, and the result is true if and only if a one-to-one renaming of ids
-- maps the messages of `a`, in order, to those of `b`.
pub record AreCompared (limits : Limits) (mode : Mode) (a b : List ℕ) (same : Bool) : Type 0 where
  pub messages_a : List Sent
  pub messages_b : List Sent
  pub accepts_a : IsAccepted limits mode a messages_a
  pub accepts_b : IsAccepted limits mode b messages_b
  pub reported : (same ≡ true) ↔ AreSame (stop_in mode) messages_a messages_b

-- This is the first error of one of the two recordings, or an allocation failed.
abbrev pub IsOfOne : Limits → Mode → List ℕ → List ℕ → Refused → Type 0
IsOfOne limits mode a b refused =
    RefusesBytes limits mode a refused ⊎ RefusesBytes limits mode b refused
