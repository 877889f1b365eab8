-- The exchanges that a suggestion adds. Source: own, over the order of messages.
use Rattle.std.specs.Prelude.{◌≡◌, ◌⊎◌, ℕ, ◌<◌, true, Bool, ◌&&◌, List, Some, Ok, slice_get}
use Rattle.std.specs.List.{AllByRecursion, Contains}
use Rattle.dap_mask.specs.{Mask.Mask, RulesFile.rules_said, Swaps.same_half}
use Rattle.dap_message.specs.{Message.Sent, SwapRules.{Half, SwapRule, swaps_of}}
use Rattle.dap_input.specs.declared.limits.Limits.{Limits}
use Rattle.dap_order.specs.Free.{fits_half}
use Rattle.dap_rename.specs.declared.mode.Mode.{TheVariants.{Whole}}
use Rattle.dap_rules.specs.{Applying.MakesSession, Modes.mode_by}
use Rattle.dap_suggest.specs.declared.suggestion.Inputs.{Inputs}

-- The half names the message at this place.
abbrev pub NamesAt : Half → List Sent → ℕ → Type 0
NamesAt half messages place =
    (m : Sent) × (slice_get messages place ≡ Some m) × (fits_half half m ≡ true)

-- A message that the first half names comes before a message that the other half names.
pub record ComesBefore (one another : Half) (messages : List Sent) : Type 0 where
  pub place : ℕ
  pub later : ℕ
  pub in_order : place < later
  pub first : NamesAt one messages place
  pub second : NamesAt another messages later

-- Messages that the two halves of the rule name come in one order in the first list, and in the
-- other order in the second list.
abbrev pub IsInverted : List Sent → List Sent → SwapRule → Type 0
IsInverted a b swap =
    (ComesBefore swap.one swap.another a × ComesBefore swap.another swap.one b)
    ⊎ (ComesBefore swap.another swap.one a × ComesBefore swap.one swap.another b)

-- The exchange was given, or is for messages that come in both orders.
abbrev pub IsNeeded : List SwapRule → List Sent → List Sent → SwapRule → Type 0
IsNeeded given a b swap = Contains given swap ⊎ IsInverted a b swap

-- The exchanges are those that were given, or for messages that come in both orders, in the
-- sessions that rules without other exchanges than the given ones make of the two recordings.
pub record AreNeeded (limits : Limits) (given : List SwapRule) (a b : List ℕ)
    (swaps : List SwapRule) : Type 0 where
  pub mask : Mask
  pub no_others : AllByRecursion (Contains given) mask.swaps
  pub of_a : List Sent
  pub of_b : List Sent
  pub a_is : MakesSession limits (mode_by mask Whole) mask a of_a
  pub b_is : MakesSession limits (mode_by mask Whole) mask b of_b
  pub needed : AllByRecursion (IsNeeded given of_a of_b) swaps

-- The exchanges of the second file of rules are those of the first one, or for messages that come
-- in both orders.
abbrev pub AddsNeededSwaps : Limits → List ℕ → List ℕ → List ℕ → List ℕ → Type 0
AddsNeededSwaps limits given whole a b = (before after : Mask) → rules_said given ≡ Ok before
    → rules_said whole ≡ Ok after → AreNeeded limits before.swaps a b after.swaps

-- ---- the steps

-- The two rules have equal halves, in this order.
abbrev pub equal_swaps : SwapRule → SwapRule → Bool
equal_swaps s t = same_half s.one t.one && same_half s.another t.another

-- The inputs have the exchanges of the rules that were given.
abbrev pub HasGivenSwaps : Inputs → Type 0
HasGivenSwaps inputs = (given : Mask) → rules_said inputs.given.now ≡ Ok given
    → given.swaps ≡ swaps_of inputs.swaps.now

-- The exchanges of the inputs are needed.
abbrev pub HasNeededSwaps : Inputs → Type 0
HasNeededSwaps inputs = (given : Mask) → rules_said inputs.given.now ≡ Ok given
    → AreNeeded inputs.limits given.swaps inputs.a.now inputs.b.now (swaps_of inputs.swaps.now)

-- If the file of rules is accepted, its exchanges are among these.
abbrev pub HasSwapsAmong : List SwapRule → List ℕ → Type 0
HasSwapsAmong swaps rules = (mask : Mask) → rules_said rules ≡ Ok mask
    → AllByRecursion (Contains swaps) mask.swaps
