-- The exchanges of a suggestion: those that were given, and those that are needed.
use Rattle.std.proofs.Common.{◌≡◌, ℕ, ◌+◌, ◌<◌, Bool, true, ◌||◌, List, [], ◌∷◌, length, drop}
use Rattle.std.proofs.Common.{get_or, Option, Some, None, Ok, IsTrue, inl, refl, sym, ap, ap₂, subst}
use Rattle.std.proofs.Common.{◌∙◌}
use Rattle.std.specs.List.{AllByRecursion, Contains, list_any}
use Rattle.std.proofs.lemmas.List.{drop_more}
use Rattle.std.proofs.lemmas.List.Elements.{All-contains, All-contains_itself}
use Rattle.std.proofs.lemmas.List.Elements.{All-from_recursion, recursion_from_All}
use Rattle.std.proofs.lemmas.Slice.Eq.{bytes_eq-Decides}
use Rattle.std.proofs.lemmas.Map.Views.{Contains-from_any}
use Rattle.dap_mask.specs.{Mask.Mask, RulesFile.rules_said}
use Rattle.dap_mask.specs.{Rules.{same_kind, same_name}, Swaps.same_half}
use Rattle.dap_message.specs.SwapRules.{Half, SwapRule, swap_of, swaps_of}
use Rattle.dap_message.specs.declared.swap_rule.SwapRule.{SwapRule as ReadSwapRule}
use Rattle.dap_tree.proofs.Booleans.{and_left, and_right}
use Rattle.dap_profile.specs.declared.profile.Kind.{Kind}
use Rattle.dap_profile.specs.declared.profile.Kind.TheVariants.{Request, Response, Event}
use Rattle.dap_suggest.specs.Exchanges.{AddsNeededSwaps, AreNeeded, HasGivenSwaps, HasNeededSwaps}
use Rattle.dap_suggest.specs.Exchanges.{HasSwapsAmong, IsNeeded, equal_swaps}
use Rattle.dap_suggest.specs.Suggested.{AreMade, IsSuggestion}
use Rattle.dap_suggest.specs.declared.sessions.Sessions.{Sessions}
use Rattle.dap_suggest.specs.declared.suggestion.Inputs.{Inputs}
use Rattle.dap_suggest.specs.declared.suggestion.Suggestion.{Suggestion}
use Rattle.dap_stored.specs.Sessions.{messages_of}

-- ---- equal rules

one_kind : (j k : Kind) → same_kind j k ≡ true → j ≡ k
one_kind Request Request same = refl
one_kind Response Response same = refl
one_kind Event Event same = refl
one_kind Request Response same = cc
one_kind Request Event same = cc
one_kind Response Request same = cc
one_kind Response Event same = cc
one_kind Event Request same = cc
one_kind Event Response same = cc

one_name : (n m : Option (List ℕ)) → same_name n m ≡ true → n ≡ m
one_name None None same = refl
one_name (Some n) (Some m) same = ap Some ((bytes_eq-Decides n m).0 same)
one_name None (Some m) same = cc
one_name (Some n) None same = cc

one_half : (h g : Half) → same_half h g ≡ true → h ≡ g
one_half h g same = ap₂ (λ k n. record { kind = k; name = n })
    (one_kind h.kind g.kind (and_left (same_kind h.kind g.kind) (same_name h.name g.name) same))
    (one_name h.name g.name (and_right (same_kind h.kind g.kind) (same_name h.name g.name) same))

one_swap : (s t : SwapRule) → equal_swaps s t ≡ true → s ≡ t
one_swap s t same = ap₂ (λ h g. record { one = h; another = g })
    (one_half s.one t.one
    (and_left (same_half s.one t.one) (same_half s.another t.another) same))
    (one_half s.another t.another
    (and_right (same_half s.one t.one) (same_half s.another t.another) same))

any_mapped : (p : SwapRule → Bool) (xs : List ReadSwapRule)
    → list_any (λ x. p (swap_of x)) xs ≡ list_any p (swaps_of xs)
any_mapped p [] = refl
any_mapped p (x ∷ xs) = ap (λ b. p (swap_of x) || b) (any_mapped p xs)

-- A rule that is found among others is one of them.
pub contains : (swaps : List ReadSwapRule) (swap : SwapRule) (found : Bool)
    → found ≡ list_any (λ s. equal_swaps swap (swap_of s)) swaps → IsTrue found
    → Contains (swaps_of swaps) swap
contains swaps swap found is there = Contains-from_any one_swap swap (swaps_of swaps)
    (sym (any_mapped (equal_swaps swap) swaps) ∙ sym is ∙ there)

-- All are such if the rest of them and this one are.
pub one_more : (P : SwapRule → Type 0) (xs : List ReadSwapRule) (i : ℕ) (x : ReadSwapRule)
    → i < length xs → x ≡ get_or xs i x → P (swap_of x)
    → AllByRecursion P (swaps_of (drop (i + 1) xs)) → AllByRecursion P (swaps_of (drop i xs))
one_more P xs i x within is here rest = subst (λ ys. AllByRecursion P (swaps_of ys))
    (sym (drop_more xs i x within ∙ ap (λ y. y ∷ drop (i + 1) xs) (sym is))) (here, rest)

-- ---- exchanges that are needed

from_contained : (P : SwapRule → Type 0) (swaps others : List SwapRule)
    → AllByRecursion P swaps → AllByRecursion (Contains swaps) others → AllByRecursion P others
from_contained P swaps [] all among = tt
from_contained P swaps (x ∷ xs) all (first, rest) = (
  All-contains P swaps x (All-from_recursion P swaps all) first,
  from_contained P swaps xs all rest,
)

module _ (inputs : Inputs) where
  -- No other exchanges than those of the inputs are added.
  pub adds_needed : (whole : List ℕ) → HasNeededSwaps inputs
      → HasSwapsAmong (swaps_of inputs.swaps.now) whole
      → AddsNeededSwaps inputs.limits inputs.given.now whole inputs.a.now inputs.b.now
  adds_needed whole ready among before after said read =
      let all = ready before said in
      record {
        mask = all.mask;
        no_others = all.no_others;
        of_a = all.of_a;
        of_b = all.of_b;
        a_is = all.a_is;
        b_is = all.b_is;
        needed = from_contained (IsNeeded before.swaps all.of_a all.of_b)
            (swaps_of inputs.swaps.now) after.swaps all.needed (among after read);
      }

  module _ (mask : Mask) (sessions : Sessions) (made : AreMade inputs mask sessions) where
    needed_in : (given swaps : List SwapRule) → AllByRecursion (Contains given) mask.swaps
        → AllByRecursion (IsNeeded given (messages_of sessions.a) (messages_of sessions.b)) swaps
        → AreNeeded inputs.limits given inputs.a.now inputs.b.now swaps
    needed_in given swaps no_others needed = record {
      mask = mask;
      no_others = no_others;
      of_a = messages_of sessions.a;
      of_b = messages_of sessions.b;
      a_is = made.0;
      b_is = made.1;
      needed = needed;
    }

    given_needed : (given swaps : List SwapRule) → AllByRecursion (Contains given) swaps
        → AllByRecursion (IsNeeded given (messages_of sessions.a) (messages_of sessions.b)) swaps
    given_needed given [] all = tt
    given_needed given (x ∷ xs) all = (inl all.0, given_needed given xs all.1)

    -- The rules that were given need their exchanges.
    pub given_are_needed : rules_said inputs.given.now ≡ Ok mask → HasGivenSwaps inputs
        → HasNeededSwaps inputs
    given_are_needed said given before read =
        let one : before ≡ mask = cc in
        let own : AllByRecursion (Contains mask.swaps) mask.swaps =
        recursion_from_All (Contains mask.swaps) mask.swaps (All-contains_itself mask.swaps) in
        subst (λ m. AreNeeded inputs.limits m.swaps inputs.a.now inputs.b.now
        (swaps_of inputs.swaps.now)) (sym one)
        (subst (AreNeeded inputs.limits mask.swaps inputs.a.now inputs.b.now) (given mask said)
        (needed_in mask.swaps mask.swaps own (given_needed mask.swaps mask.swaps own)))

    -- Exchanges that the sessions need are needed after the rules that were given.
    pub found_are_needed : (swaps : List SwapRule) → HasGivenSwaps inputs
        → AllByRecursion (Contains (swaps_of inputs.swaps.now)) mask.swaps
        → AllByRecursion (IsNeeded (swaps_of inputs.swaps.now) (messages_of sessions.a)
        (messages_of sessions.b)) swaps
        → (before : Mask) → rules_said inputs.given.now ≡ Ok before
        → AreNeeded inputs.limits before.swaps inputs.a.now inputs.b.now swaps
    found_are_needed swaps given among needed before read =
        subst (λ xs. AreNeeded inputs.limits xs inputs.a.now inputs.b.now swaps)
        (sym (given before read))
        (needed_in (swaps_of inputs.swaps.now) swaps among needed)

-- A suggestion does not depend on the exchanges that were found.
pub same_suggestion : (inputs other : Inputs) (s : Suggestion)
    → other ≡ record inputs { swaps = other.swaps } → IsSuggestion other s → IsSuggestion inputs s
same_suggestion inputs other s same is =
    let all : IsSuggestion (record inputs { swaps = other.swaps }) s =
    subst (λ x. IsSuggestion x s) same is in
    record {
      added = all.added;
      confirmed = record {
        same = all.confirmed.same;
        broad = all.confirmed.broad;
        guarded = all.confirmed.guarded;
      };
      ends = all.ends;
      strict = all.strict;
      swaps = all.swaps;
    }
