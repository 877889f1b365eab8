-- The text into which the rules of a file turn a recording, its messages, and the errors for which
-- they cannot. Source: own, over joined output, masks and the order of messages.
use Rattle.std.specs.Prelude.{◌≡◌, ◌⊎◌, ℕ, List, [], ◌∷◌, Option, Some, None}
use Rattle.dap_join.specs.Joining.{IsNotJoined, Joins}
use Rattle.dap_mask.specs.declared.joining.Joining.{Joining}
use Rattle.dap_mask.specs.{Declarations.Declaration, Mask.Mask}
use Rattle.dap_message.specs.{Message.Sent, SwapRules.SwapRule}
use Rattle.dap_rename.specs.declared.mode.Mode.{Mode}
use Rattle.dap_input.specs.{declared.limits.Limits.Limits, declared.refused.Refused.Refused}
use Rattle.dap_input.specs.{declared.refused.Refused.TheVariants.Memory, Refusals.IsRefused}
use Rattle.dap_normalise.specs.Accepting.{IsAccepted, accepting}
use Rattle.dap_normalise.specs.NormalSession.{IsNormalSession}
use Rattle.dap_normalise.specs.Normalising.{RefusesBytes}
use Rattle.dap_normalise.specs.declared.normal_session.NormalSession.{NormalSession}
use Rattle.dap_rules.specs.{MaskedRecordings.IsMaskedTo, Masking.masking, Renumbering.renumbered}
use Rattle.dap_rules.specs.{NamedRecordings.IsNamedTo, Naming.naming}
use Rattle.dap_rules.specs.Ordering.{IsNotOrdered, Orders, RefusesToOrder}
use Rattle.dap_rules.specs.declared.fault.ApplyRefused.{ApplyRefused}
use Rattle.dap_rules.specs.declared.fault.ApplyRefused.TheVariants as because

-- ---- the text

-- If the rules join output, `joined` is the recording with its output joined, and `numbers` are the
-- numbers that its records have in the recording. Otherwise the recording is unchanged, and the
-- list of numbers is empty.
abbrev pub JoinsBy : Limits → Option Joining → List ℕ → List ℕ → List ℕ → Type 0
JoinsBy limits None recording joined numbers = (joined ≡ recording) × (numbers ≡ [])
JoinsBy limits (Some joining) recording joined numbers =
    Joins limits joining recording joined numbers

-- The output of the recording is joined if the rules say so, and the result is masked.
abbrev pub IsMaskedByRules : Limits → Mask → List ℕ → List ℕ → Type 0
IsMaskedByRules limits mask recording written = (joined : List ℕ) × (numbers : List ℕ)
    × JoinsBy limits mask.joining recording joined numbers
    × IsMaskedTo limits mask joined written

-- Names replace the ids that are declared. Without declarations the recording is unchanged.
abbrev pub NamesBy : Limits → List Declaration → List ℕ → List ℕ → Type 0
NamesBy limits [] recording written = written ≡ recording
NamesBy limits (declared ∷ others) recording written =
    IsNamedTo limits (declared ∷ others) recording written

-- The output of the recording is joined if the rules say so, the result is masked, and its declared
-- ids are replaced by names.
abbrev pub IsNamedByRules : Limits → Mask → List ℕ → List ℕ → Type 0
IsNamedByRules limits mask recording named = (masked : List ℕ)
    × IsMaskedByRules limits mask recording masked × NamesBy limits mask.declared masked named

-- The rules for the order put the recording in order. Without such rules it is unchanged.
abbrev pub OrdersBy : Limits → Mode → List SwapRule → List ℕ → List ℕ → Type 0
OrdersBy limits mode [] recording written = written ≡ recording
OrdersBy limits mode (rule ∷ rules) recording written =
    Orders limits mode (rule ∷ rules) recording written

-- The output of the recording is joined if the rules say so, the joined recording is masked, its
-- declared ids are replaced by names, and the result is put in order.
abbrev pub IsOrderedByRules : Limits → Mode → Mask → List ℕ → List ℕ → Type 0
IsOrderedByRules limits mode mask recording ordered = (named : List ℕ)
    × IsNamedByRules limits mask recording named × OrdersBy limits mode mask.swaps named ordered

-- The output of the recording is joined if the rules say so, the joined recording is masked, its
-- declared ids are replaced by names, and the named recording is put in order. The order may change
-- which id of a label appears first, so the ids of the ordered recording, which are names now, are
-- replaced by names again: `written` is the text of the result.
pub record AppliesRules (limits : Limits) (mode : Mode) (mask : Mask)
    (recording written : List ℕ) : Type 0 where
  pub joined : List ℕ
  pub numbers : List ℕ
  pub joins : JoinsBy limits mask.joining recording joined numbers
  pub masked : List ℕ
  pub masks : IsMaskedTo limits mask joined masked
  pub named : List ℕ
  pub names : NamesBy limits mask.declared masked named
  pub ordered : List ℕ
  pub orders : OrdersBy limits mode mask.swaps named ordered
  pub renames : NamesBy limits mask.declared ordered written

-- The rules turn the recording into a text, which is accepted, and these are its messages.
pub record MakesSession (limits : Limits) (mode : Mode) (mask : Mask) (recording : List ℕ)
    (messages : List Sent) : Type 0 where
  pub written : List ℕ
  pub applies : AppliesRules limits mode mask recording written
  pub accepted : IsAccepted limits mode written messages

-- The rules for the order put the recording in order, and this is the normal text of the result,
-- with its counts.
abbrev pub NormalisesBy : Limits → Mode → List SwapRule → List ℕ → NormalSession → Type 0
NormalisesBy limits mode rules recording session = (written : List ℕ)
    × OrdersBy limits mode rules recording written × IsNormalSession limits mode written session

-- The rules turn the recording into a text, and this is its normal text, with its counts.
abbrev pub NormalisesByRules : Limits → Mode → Mask → List ℕ → NormalSession → Type 0
NormalisesByRules limits mode mask recording session = (written : List ℕ)
    × AppliesRules limits mode mask recording written × IsNormalSession limits mode written session

-- ---- errors

-- The rules join output, and the output of the recording cannot be joined for this reason.
abbrev pub IsNotJoinedBy : Limits → Option Joining → List ℕ → Refused → Type 0
IsNotJoinedBy limits None recording refused = ⊥
IsNotJoinedBy limits (Some joining) recording refused =
    IsNotJoined limits joining recording refused

-- The output of the recording is joined if the rules say so, and the joined recording cannot be
-- masked. The error is reported with the number that its record has in the recording.
pub record CannotMaskJoined (limits : Limits) (mask : Mask) (recording : List ℕ)
    (refused : Refused) : Type 0 where
  pub joined : List ℕ
  pub numbers : List ℕ
  pub joins : JoinsBy limits mask.joining recording joined numbers
  pub because : Refused
  pub is_refused : IsRefused (masking limits mask) joined because
  pub is_renumbered : refused ≡ renumbered numbers because

-- The rules cannot mask the recording, for this reason: its output cannot be joined, or the joined
-- recording cannot be masked.
abbrev pub IsNotMaskedByRules : Limits → Mask → List ℕ → Refused → Type 0
IsNotMaskedByRules limits mask recording refused =
    IsNotJoinedBy limits mask.joining recording refused
    ⊎ CannotMaskJoined limits mask recording refused

-- There are declarations, and the declared ids of the recording cannot be named for this reason.
abbrev pub IsNotNamedBy : Limits → List Declaration → List ℕ → Refused → Type 0
IsNotNamedBy limits [] recording refused = ⊥
IsNotNamedBy limits (declared ∷ others) recording refused =
    IsRefused (naming limits (declared ∷ others)) recording refused

-- The rules mask the recording, and the declared ids of the result cannot be named, for this
-- reason.
abbrev pub IsNotNamedByRules : Limits → Mask → List ℕ → Refused → Type 0
IsNotNamedByRules limits mask recording refused = (masked : List ℕ)
    × IsMaskedByRules limits mask recording masked
    × IsNotNamedBy limits mask.declared masked refused

-- There are rules for the order, and they cannot put the recording in order for this reason.
abbrev pub IsNotOrderedBy : Limits → Mode → List SwapRule → List ℕ → Refused → Type 0
IsNotOrderedBy limits mode [] recording refused = ⊥
IsNotOrderedBy limits mode (rule ∷ rules) recording refused =
    IsNotOrdered limits mode (rule ∷ rules) recording refused

-- The rules mask the recording and name its ids, and they cannot put the result in order, for this
-- reason.
abbrev pub IsNotOrderedByRules : Limits → Mode → Mask → List ℕ → Refused → Type 0
IsNotOrderedByRules limits mode mask recording refused = (named : List ℕ)
    × IsNamedByRules limits mask recording named
    × IsNotOrderedBy limits mode mask.swaps named refused

-- The rules mask the recording, name its ids and put it in order, and the declared ids of the
-- result cannot be named again, for this reason.
abbrev pub IsNotRenamedByRules : Limits → Mode → Mask → List ℕ → Refused → Type 0
IsNotRenamedByRules limits mode mask recording refused = (ordered : List ℕ)
    × IsOrderedByRules limits mode mask recording ordered
    × IsNotNamedBy limits mask.declared ordered refused

-- The rules cannot be applied to the recording, for this reason. Each step was reached only if the
-- steps before it succeeded.
abbrev pub IsRefusedByRules : Limits → Mode → Mask → List ℕ → ApplyRefused → Type 0
IsRefusedByRules limits mode mask recording (because.Mask refused) =
    IsNotMaskedByRules limits mask recording refused
IsRefusedByRules limits mode mask recording (because.Order refused) =
    IsNotNamedByRules limits mask recording refused
    ⊎ (IsNotOrderedByRules limits mode mask recording refused
    ⊎ IsNotRenamedByRules limits mode mask recording refused)
IsRefusedByRules limits mode mask recording because.ReadFault = ⊥
IsRefusedByRules limits mode mask recording because.Memory = Unit {0}

-- The rules cannot mask the recording for this reason, or an allocation failed.
abbrev pub RefusesToMaskByRules : Limits → Mask → List ℕ → Refused → Type 0
RefusesToMaskByRules limits mask recording Memory = Unit {0}
RefusesToMaskByRules limits mask recording refused =
    IsNotMaskedByRules limits mask recording refused

-- The recording cannot be masked for this reason, or an allocation failed. Output is not joined.
abbrev pub RefusesToMask : Limits → Mask → List ℕ → Refused → Type 0
RefusesToMask limits mask recording Memory = Unit {0}
RefusesToMask limits mask recording refused = IsRefused (masking limits mask) recording refused

-- The declared ids of the recording cannot be named for this reason, or an allocation failed.
abbrev pub RefusesToName : Limits → List Declaration → List ℕ → Refused → Type 0
RefusesToName limits declared recording Memory = Unit {0}
RefusesToName limits declared recording refused =
    IsRefused (naming limits declared) recording refused

-- The rules cannot be applied to the recording, or the text into which they turn it is rejected. A
-- text in order is never rejected before its ids are named again.
abbrev pub IsNotNormalised : Limits → Mode → Mask → List ℕ → ApplyRefused → Type 0
IsNotNormalised limits mode mask recording (because.Order refused) =
    IsRefusedByRules limits mode mask recording (because.Order refused)
    ⊎ ((written : List ℕ) × AppliesRules limits mode mask recording written
    × IsRefused (accepting limits mode) written refused)
IsNotNormalised limits mode mask recording refused =
    IsRefusedByRules limits mode mask recording refused

-- The recording cannot be put in order by the rules, or the result is rejected, for this reason. Or
-- an allocation failed. A text in order is never rejected.
abbrev pub RefusesNormalBy : Limits → Mode → List SwapRule → List ℕ → Refused → Type 0
RefusesNormalBy limits mode [] recording refused = RefusesBytes limits mode recording refused
RefusesNormalBy limits mode (rule ∷ rules) recording refused =
    RefusesToOrder limits mode (rule ∷ rules) recording refused
