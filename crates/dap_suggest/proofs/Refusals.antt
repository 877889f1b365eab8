-- Why no rules are suggested, from the steps that fail.
use Rattle.std.proofs.Common.{◌≡◌, ◌≢◌, ℕ, ◌≤◌, Bool, true, false, cond, List, Ok, Err, arith}
use Rattle.std.proofs.Common.{length, nat_lt, refl, sym, subst, take}
use Rattle.dap_mask.specs.Mask.{Mask, no_rules}
use Rattle.dap_mask.specs.RulesFile.{last_line, rules_from, rules_said}
use Rattle.dap_mask.specs.Runs.{lines_of}
use Rattle.dap_mask.specs.declared.fault.RulesCause.TheVariants as cause
use Rattle.dap_mask.specs.declared.fault.RulesFault.{RulesFault}
use Rattle.dap_input.specs.declared.limits.Limits.{Limits}
use Rattle.dap_compare.specs.declared.verdict.Which.{Which}
use Rattle.dap_rules.specs.declared.fault.ApplyRefused.{ApplyRefused}
use Rattle.dap_rules.specs.declared.fault.ApplyRefused.TheVariants.{Memory}
use Rattle.dap_suggest.specs.NotSuggested.{IsNotSuggested, IsRulesRefusal, IsSearchRefusal}
use Rattle.dap_suggest.specs.NotSuggested.{input_refusal}
use Rattle.dap_suggest.specs.Suggested.{IsOneRejected}
use Rattle.dap_suggest.specs.declared.suggestion.SuggestRefused.{SuggestRefused}
use Rattle.dap_suggest.specs.declared.suggestion.SuggestRefused.TheVariants as because

-- Rules that are accepted are not too long.
unless_too_long : (given : List ℕ) (mask : Mask) (too_long : Bool)
    → nat_lt 65536 (length given) ≡ too_long
    → cond too_long (Err (record {
      line = last_line (take 65536 given);
      cause = cause.TooLong;
    }))
    (rules_from no_rules 1 (lines_of given)) ≡ Ok mask
    → length given ≤ 65536
unless_too_long given mask true is said = absurd (let wrong : ⊥ = cc in wrong)
unless_too_long given mask false is said = grind (arith, is)

pub accepted_are_short : (given : List ℕ) (mask : Mask) → rules_said given ≡ Ok mask
    → length given ≤ 65536
unfolding rules_said
accepted_are_short given mask said =
    unless_too_long given mask (nat_lt 65536 (length given)) refl said

module _ (limits : Limits) (given a b : List ℕ) where
  pub rules_rejected : (fault : RulesFault) → (result : SuggestRefused)
      → IsRulesRefusal fault result → (fault.cause ≢ cause.Memory → rules_said given ≡ Err fault)
      → (fault.cause ≡ cause.Memory → length given ≤ 65536)
      → IsNotSuggested limits given a b result
  rules_rejected fault (because.Rules reported) (is, named) said short = subst
      (λ f. rules_said given ≡ Err f) (sym is) (said named)
  rules_rejected fault (because.Input which refused) is said short = absurd is
  rules_rejected fault (because.NoRules obstacle) is said short = absurd is
  rules_rejected fault because.Memory is said short = short is

  module _ (mask : Mask) (said : rules_said given ≡ Ok mask) where
    pub search_failed : (result : SuggestRefused) → IsSearchRefusal limits given a b result
        → IsNotSuggested limits given a b result
    search_failed (because.Rules fault) is = absurd is
    search_failed (because.Input which refused) is = absurd is
    search_failed (because.NoRules obstacle) is = ((mask, said), is)
    search_failed because.Memory is = accepted_are_short given mask said

    named : (which : Which) (refused : ApplyRefused)
        → IsOneRejected limits mask a b (which, refused)
        → IsNotSuggested limits given a b (input_refusal which refused)
    named which Memory is = accepted_are_short given mask said
    named which refused is = (mask, said, is)

    pub one_rejected : (which : Which) (refused : ApplyRefused)
        → IsOneRejected limits mask a b (which, refused)
        → (result : SuggestRefused) → result ≡ input_refusal which refused
        → IsNotSuggested limits given a b result
    one_rejected which refused is result same = subst
        (IsNotSuggested limits given a b) (sym same) (named which refused is)
