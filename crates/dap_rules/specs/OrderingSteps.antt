-- What the steps of ordering do, for private clauses.
use Rattle.std.specs.Prelude.{◌≡◌, ℕ, List, length, Result, Ok, Err}
use Rattle.dap_device.specs.{declared.reading.Stop.Stop, declared.reading.Stop.TheVariants.Failed}
use Rattle.dap_message.specs.{Message.Sent, SwapRules.SwapRule}
use Rattle.dap_rename.specs.declared.mode.Mode.{Mode}
use Rattle.dap_recording.specs.declared.record_fault.RecordCause.TheVariants.{Cut}
use Rattle.dap_input.specs.{declared.limits.Limits.Limits, declared.refused.Refused.Refused}
use Rattle.dap_input.specs.declared.refused.Refused.TheVariants.{Grew, Memory, ReadFault, Record}
use Rattle.dap_normalise.specs.Accepting.{Fits, IsAccepted, text}
use Rattle.dap_rules.specs.Ordering.{Orders, PassesLimit}

-- This is the length of the text of the messages, which is within the limits.
pub record IsLengthOf (limits : Limits) (messages : List Sent) (len : ℕ) : Type 0 where
  pub length_is : len ≡ length (text messages)
  pub fits : Fits limits messages

-- The length of the text of the messages was counted, or it exceeds a limit.
abbrev pub Measures : Limits → List Sent → Result ℕ Refused → Type 0
Measures limits messages (Ok len) = IsLengthOf limits messages len
Measures limits messages (Err (Grew n)) = PassesLimit limits messages n
Measures limits messages (Err Memory) = Unit {0}
Measures limits messages (Err _) = ⊥

-- These are the messages, and their text is within the limits.
pub record AreWithin (limits : Limits) (messages views : List Sent) : Type 0 where
  pub same : views ≡ messages
  pub fits : Fits limits messages

-- The recording is put in order, and these are the messages of its text in order.
abbrev pub Arranges : Limits → Mode → List SwapRule → List ℕ → List Sent → Type 0
Arranges limits mode rules bytes messages = (written : List ℕ)
    × Orders limits mode rules bytes written × IsAccepted limits mode written messages

-- The text to be written for an input whose reader stopped for this reason, given the text for the
-- bytes read.
abbrev pub result_of_input : {T : Type 0} → Result T Refused → Stop → Result T Refused
result_of_input (Ok text) Failed = Err ReadFault
result_of_input (Err (Record n Cut)) Failed = Err ReadFault
result_of_input result stop = result
