-- What the steps of applying rules do, for private clauses.
use Rattle.std.specs.Prelude.{◌≡◌, ◌⊎◌, ℕ, List, [], Option, Some, None, Result, Ok, Err}
use Rattle.dap_join.specs.declared.joined.Joined.{Joined}
use Rattle.dap_mask.specs.declared.joining.Joining.{Joining}
use Rattle.dap_mask.specs.Mask.{Mask}
use Rattle.dap_device.specs.{declared.reading.Stop.Stop, declared.reading.Stop.TheVariants.Failed}
use Rattle.dap_message.specs.{Message.Sent, SwapRules.SwapRule}
use Rattle.dap_naming.specs.Sessions.{AreFew, declared_ids, named_sents}
use Rattle.dap_rename.specs.declared.mode.Mode.{Mode}
use Rattle.dap_input.specs.{declared.limits.Limits.Limits, declared.refused.Refused.Refused}
use Rattle.dap_input.specs.declared.refused.Refused.TheVariants.{Memory, Record}
use Rattle.dap_input.specs.Refusals.{IsRefused}
use Rattle.dap_normalise.specs.Accepting.{Fits, IsAccepted, Payload, accepting}
use Rattle.dap_normalise.specs.RecordTexts.{Contain}
use Rattle.dap_recording.specs.Recording.{recording_text}
use Rattle.dap_recording.specs.declared.record_fault.RecordCause.TheVariants.{Cut}
use Rattle.dap_rules.specs.Applying.{IsNotMaskedByRules, IsNotOrderedByRules, IsOrderedByRules}
use Rattle.dap_rules.specs.Applying.{JoinsBy, OrdersBy}
use Rattle.dap_rules.specs.MaskedSessions.{IsMaskedSession}
use Rattle.dap_rules.specs.declared.masked_session.MaskedSession.{MaskedSession}
use Rattle.dap_rules.specs.declared.fault.ApplyRefused.{ApplyRefused}
use Rattle.dap_rules.specs.declared.fault.ApplyRefused.TheVariants as because

-- The recording with its output joined, or nothing if the rules do not join output.
abbrev pub JoinsIf : Limits → Option Joining → List ℕ → Option Joined → Type 0
JoinsIf limits joining recording (Some joined) =
    JoinsBy limits joining recording joined.recording.items joined.numbers.items
JoinsIf limits joining recording None = JoinsBy limits joining recording recording []

-- The output of the recording is joined if the rules say so, and the session has the masked
-- messages of the result, with names in the place of their declared ids.
pub record IsMaskedSessionByRules (limits : Limits) (mask : Mask) (recording : List ℕ)
    (session : MaskedSession) : Type 0 where
  pub joined : List ℕ
  pub numbers : List ℕ
  pub joins : JoinsBy limits mask.joining recording joined numbers
  pub is_masked : IsMaskedSession limits mask joined session

-- The error of masking, with its step.
abbrev pub mask_refusal : Refused → ApplyRefused
mask_refusal Memory = because.Memory
mask_refusal refused = because.Mask refused

-- The error of naming or of putting in order, with its step.
abbrev pub order_refusal : Refused → ApplyRefused
order_refusal Memory = because.Memory
order_refusal refused = because.Order refused

-- The rules for the order put the recording in order, and these are the messages of the result,
-- which is accepted.
abbrev pub MakesSessionBy : Limits → Mode → List SwapRule → List ℕ → List Sent → Type 0
MakesSessionBy limits mode rules recording messages = (written : List ℕ)
    × OrdersBy limits mode rules recording written × IsAccepted limits mode written messages

-- ---- before ids are named again

-- The rules mask the recording, name its ids and put it in order, and this holds for the result.
abbrev pub MakesOrdered : Limits → Mode → Mask → List ℕ → (List ℕ → Type 0) → Type 0
MakesOrdered limits mode mask recording Holds = (ordered : List ℕ)
    × IsOrderedByRules limits mode mask recording ordered × Holds ordered

-- The rules cannot mask the recording, or cannot put it in order after they named its ids, for this
-- reason. Without declarations these are the only reasons.
abbrev pub IsRefusedInOrder : Limits → Mode → Mask → List ℕ → ApplyRefused → Type 0
IsRefusedInOrder limits mode mask recording (because.Mask refused) =
    IsNotMaskedByRules limits mask recording refused
IsRefusedInOrder limits mode mask recording (because.Order refused) =
    IsNotOrderedByRules limits mode mask recording refused
IsRefusedInOrder limits mode mask recording because.ReadFault = ⊥
IsRefusedInOrder limits mode mask recording because.Memory = Unit {0}

-- The same, or the text in order is rejected, which is possible only without rules for the order.
abbrev pub IsRejectedInOrder : Limits → Mode → Mask → List ℕ → ApplyRefused → Type 0
IsRejectedInOrder limits mode mask recording (because.Order refused) =
    IsNotOrderedByRules limits mode mask recording refused
    ⊎ MakesOrdered limits mode mask recording
    (λ ordered. IsRefused (accepting limits mode) ordered refused)
IsRejectedInOrder limits mode mask recording refused =
    IsRefusedInOrder limits mode mask recording refused

-- The rules mask the recording, name its ids and put it in order. The result is accepted, no label
-- has more values than the limit, and these are its messages, named again.
pub record MakesNamed (limits : Limits) (mode : Mode) (mask : Mask) (recording : List ℕ)
    (messages : List Sent) : Type 0 where
  pub ordered : List ℕ
  pub made : IsOrderedByRules limits mode mask recording ordered
  pub unnamed : List Sent
  pub accepted : IsAccepted limits mode ordered unnamed
  pub few : AreFew limits.ids (declared_ids mask.declared unnamed)
  pub named : messages ≡ named_sents mask.declared unnamed

-- Each list of records that contain these messages is accepted as these messages.
abbrev pub RecordsAreAccepted : Limits → Mode → List Sent → Type 0
RecordsAreAccepted limits mode messages = (records : List Payload) → Contain limits messages records
    → IsAccepted limits mode (recording_text records) messages

-- The messages are not checked yet: if their text is within the limits and is accepted, they are
-- those that `MakesNamed` describes.
abbrev pub MakesNamedIf : Limits → Mode → Mask → List ℕ → List Sent → Type 0
MakesNamedIf limits mode mask recording messages = Fits limits messages
    → RecordsAreAccepted limits mode messages → MakesNamed limits mode mask recording messages

-- The result of `read_session_by_rules` for an input whose reader stopped for this reason, given
-- the result for the bytes read.
abbrev pub result_of_input : {T : Type 0} → Result T ApplyRefused → Stop → Result T ApplyRefused
result_of_input (Ok made) Failed = Err because.ReadFault
result_of_input (Err (because.Mask (Record n Cut))) Failed = Err because.ReadFault
result_of_input result stop = result
