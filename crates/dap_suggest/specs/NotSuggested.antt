-- Why no rules are suggested for two recordings. Source: own.
use Rattle.std.specs.Prelude.{◌≡◌, ◌≢◌, ℕ, ◌≤◌, List, ◌++◌, length, Ok, Err}
use Rattle.dap_mask.specs.{Mask.Mask, RulesFile.rules_said}
use Rattle.dap_message.specs.Message.{Sent}
use Rattle.dap_rename.specs.declared.mode.Mode.TheVariants.{Whole}
use Rattle.dap_mask.specs.declared.fault.RulesCause.TheVariants as cause
use Rattle.dap_mask.specs.declared.fault.RulesFault.{RulesFault}
use Rattle.dap_input.specs.declared.limits.Limits.{Limits}
use Rattle.dap_compare.specs.{Sessions.DifferFirstAt, declared.verdict.Which.Which}
use Rattle.dap_rules.specs.{Applying.MakesSession, Modes.mode_by}
use Rattle.dap_rules.specs.declared.fault.ApplyRefused.{ApplyRefused}
use Rattle.dap_rules.specs.declared.fault.ApplyRefused.TheVariants.{Memory}
use Rattle.dap_rules.specs.declared.fault.ApplyRefused.TheVariants as step
use Rattle.dap_suggest.specs.{Suggested.IsOneRejected, declared.suggestion.Inputs.Inputs}
use Rattle.dap_suggest.specs.declared.obstacle.Obstacle.{Obstacle}
use Rattle.dap_suggest.specs.declared.obstacle.Obstacle.TheVariants as obstacle
use Rattle.dap_suggest.specs.declared.suggestion.SuggestRefused.{SuggestRefused}
use Rattle.dap_suggest.specs.declared.suggestion.SuggestRefused.TheVariants as because

-- The rules that were given are accepted.
abbrev pub AreAccepted : List ℕ → Type 0
AreAccepted given = (mask : Mask) × (rules_said given ≡ Ok mask)

-- The rules that were given are accepted, and A, or B if A is not rejected, is rejected by them.
abbrev pub IsInputRejected : Limits → List ℕ → List ℕ → List ℕ → Which → ApplyRefused → Type 0
IsInputRejected limits given a b which refused =
    (mask : Mask) × (rules_said given ≡ Ok mask)
    × IsOneRejected limits mask a b (which, refused)

-- By some rules after those that were given, the messages of the two recordings differ first in the
-- one with this number.
pub record StillDiffer (limits : Limits) (given a b : List ℕ) (number : ℕ) : Type 0 where
  pub rules : List ℕ
  pub mask : Mask
  pub said : rules_said (given ++ rules) ≡ Ok mask
  pub of_a : List Sent
  pub of_b : List Sent
  pub a_is : MakesSession limits (mode_by mask Whole) mask a of_a
  pub b_is : MakesSession limits (mode_by mask Whole) mask b of_b
  pub first : DifferFirstAt (mode_by mask Whole) of_a of_b number

-- A search without a result proves nothing about the recordings. If the obstacle is a record, it is
-- the first that still differs.
abbrev pub IsObstacle : Limits → List ℕ → List ℕ → List ℕ → Obstacle → Type 0
IsObstacle limits given a b (obstacle.NoneFound because) = Unit {0}
IsObstacle limits given a b (obstacle.StillDiffers number) = StillDiffer limits given a b number

-- Why no rules are suggested. Rules that are too long are rejected before any allocation.
abbrev pub IsNotSuggested : Limits → List ℕ → List ℕ → List ℕ → SuggestRefused → Type 0
IsNotSuggested limits given a b (because.Rules fault) = rules_said given ≡ Err fault
IsNotSuggested limits given a b (because.Input which refused) =
    IsInputRejected limits given a b which refused
IsNotSuggested limits given a b (because.NoRules obstacle) =
    AreAccepted given × IsObstacle limits given a b obstacle
IsNotSuggested limits given a b because.Memory = length given ≤ 65536

-- The same, of the inputs of a suggestion.
abbrev pub HasNoSuggestion : Inputs → SuggestRefused → Type 0
HasNoSuggestion inputs =
    IsNotSuggested inputs.limits inputs.given.now inputs.a.now inputs.b.now

-- ---- the steps

-- The rules that were given cannot mask a recording.
abbrev pub IsNotMaskable : SuggestRefused → Type 0
IsNotMaskable (because.Input which (step.Mask refused)) = Unit {0}
IsNotMaskable _ = ⊥

-- the error for an input that is rejected
abbrev pub input_refusal : Which → ApplyRefused → SuggestRefused
input_refusal which Memory = because.Memory
input_refusal which refused = because.Input which refused

-- The error for rules that are rejected, or that were not read because an allocation failed.
abbrev pub IsRulesRefusal : RulesFault → SuggestRefused → Type 0
IsRulesRefusal fault (because.Rules reported) = (reported ≡ fault) × (fault.cause ≢ cause.Memory)
IsRulesRefusal fault (because.Input which refused) = ⊥
IsRulesRefusal fault (because.NoRules obstacle) = ⊥
IsRulesRefusal fault because.Memory = fault.cause ≡ cause.Memory

-- The error of a search: it found no rules, or an allocation failed.
abbrev pub IsSearchRefusal : Limits → List ℕ → List ℕ → List ℕ → SuggestRefused → Type 0
IsSearchRefusal limits given a b (because.Rules fault) = ⊥
IsSearchRefusal limits given a b (because.Input which refused) = ⊥
IsSearchRefusal limits given a b (because.NoRules obstacle) = IsObstacle limits given a b obstacle
IsSearchRefusal limits given a b because.Memory = Unit {0}

-- The same, of the inputs of a suggestion.
abbrev pub FailsSearch : Inputs → SuggestRefused → Type 0
FailsSearch inputs =
    IsSearchRefusal inputs.limits inputs.given.now inputs.a.now inputs.b.now
