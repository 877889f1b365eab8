-- Rules that are confirmed for a text that is read as them.
use Rattle.std.proofs.Common.{◌≡◌, ℕ, ◌+◌, List, Result, Ok, Err, IfOk, ◌∙◌, ap, subst}
use Rattle.dap_mask.specs.{Mask.Mask, RulesFile.rules_said}
use Rattle.dap_rename.specs.declared.mode.Mode.{Mode}
use Rattle.dap_suggest.specs.{Broad.broad_of, Guarded.guarded_count}
use Rattle.dap_suggest.specs.Suggested.{IsConfirmed, IsConfirmedBy, IsSuggestion}
use Rattle.dap_suggest.specs.Suggested.{SaysWhatToCheck}
use Rattle.dap_suggest.specs.declared.suggestion.Inputs.{Inputs}
use Rattle.dap_suggest.specs.declared.suggestion.SuggestRefused.{SuggestRefused}
use Rattle.dap_suggest.specs.declared.suggestion.Suggestion.{Suggestion}

pub confirmed_by : (inputs : Inputs) (text : List ℕ) (mask : Mask) (added : ℕ) (mode : Mode)
    → rules_said text ≡ Ok mask → IsConfirmedBy inputs mask added mode
    → IsConfirmed inputs text mode added
confirmed_by inputs text mask added mode said by = record {
  same = record { mask = mask; said = said; mode_is = by.mode_is; one = by.one };
  broad = λ other read.
      let same : mask ≡ other = cc in
      subst (λ m. broad_of m ≡ inputs.broad) same by.broad;
  guarded = λ other read.
      let same : mask ≡ other = cc in
      subst (λ m. guarded_count m ≡ inputs.guarded + added) same by.guarded;
}

pub says_what_to_check : (inputs : Inputs) (mask : Mask) (result : Result Suggestion SuggestRefused)
    → rules_said inputs.given.now ≡ Ok mask → inputs.guarded ≡ guarded_count mask
    → IfOk result (IsSuggestion inputs)
    → IfOk result (λ s. SaysWhatToCheck inputs.given.now s.mode s.rules.items)
says_what_to_check inputs mask (Ok s) said is h = (
  h.added,
  h.ends,
  λ before after first second.
      let one : mask ≡ before = cc in
      h.confirmed.guarded after second ∙ ap (λ n. n + h.added) (is ∙ ap guarded_count one),
)
says_what_to_check inputs mask (Err refused) said is h = tt
