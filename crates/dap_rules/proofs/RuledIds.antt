-- The declared ids of messages stay in their order if the messages with declarations do.
use Rattle.std.proofs.Common.{◌≡◌, ℕ, zero, suc, Bool, true, false, List, [], ◌∷◌, ◌++◌, length}
use Rattle.std.proofs.Common.{slice_get, Option, Some, None, refl, ap, ap₂, sym, ◌∙◌, append_assoc}
use Rattle.std.specs.List.{filter}
use Rattle.dap_message.specs.Message.{Sent}
use Rattle.dap_tokens.specs.Naming.{Id}
use Rattle.dap_mask.specs.Declarations.{Declaration}
use Rattle.dap_naming.specs.Documents.{ids_of}
use Rattle.dap_naming.specs.Sessions.{declared_ids, rules_for}
use Rattle.dap_naming.proofs.Lists.{by_bool, head_of, tail_of}
use Rattle.dap_naming.proofs.MoreParts.{no_ids}
use Rattle.dap_stored.specs.Sessions.{AreAt}
use Rattle.dap_rules.specs.MaskedSessions.{AreRuled}
use Rattle.dap_rules.specs.RuledOrder.{KeepsRuled, flag_at, set_from}

set_here : (place : ℕ) (flag : Bool) (flags : List Bool) → flag ≡ true
    → set_from place (flag ∷ flags) ≡ place ∷ set_from (suc place) flags
set_here place flag flags set = rw set refl

not_here : (place : ℕ) (flag : Bool) (flags : List Bool) → flag ≡ false
    → set_from place (flag ∷ flags) ≡ set_from (suc place) flags
not_here place flag flags unset = rw unset refl

module _ (xs : List Declaration) where
  abbrev own : Sent → List Id
  own m = ids_of (rules_for xs m.doc) m.doc

  abbrev ids_in : Option Sent → List Id
  ids_in None = []
  ids_in (Some m) = own m

  abbrev ids_at : List Sent → List ℕ → List Id
  ids_at ms [] = []
  ids_at ms (place ∷ places) = ids_in (slice_get ms place) ++ ids_at ms places

  ids_there : (ms ns : List Sent) (places : List ℕ) → AreAt ms places ns
      → ids_at ms places ≡ declared_ids xs ns
  ids_there ms [] [] at = refl
  ids_there ms (n ∷ ns) [] at = absurd cc
  ids_there ms [] (place ∷ places) at = absurd cc
  ids_there ms (n ∷ ns) (place ∷ places) at =
      ap₂ (λ o is. ids_in o ++ is) (head_of at) (ids_there ms ns places (tail_of at))

  unruled : (m : Sent) → rules_for xs m.doc ≡ [] → own m ≡ []
  unruled m none = ap (λ rs. ids_of rs m.doc) none ∙ no_ids m.doc

  none_at : (ms : List Sent) (flags : List Bool) → AreRuled xs ms flags → (place : ℕ)
      → flag_at flags place ≡ false → ids_in (slice_get ms place) ≡ []
  none_at [] [] all place unset = refl
  none_at [] (flag ∷ flags) all place unset = absurd all
  none_at (m ∷ ms) [] all place unset = absurd all
  none_at (m ∷ ms) (flag ∷ flags) all zero unset = unruled m (all.0 unset)
  none_at (m ∷ ms) (flag ∷ flags) all (suc place) unset = none_at ms flags all.1 place unset

  module _ (ms : List Sent) (flags : List Bool) (all : AreRuled xs ms flags) where
    ids_filtered : (places : List ℕ)
        → ids_at ms (filter (flag_at flags) places) ≡ ids_at ms places
    ids_filtered [] = refl
    ids_filtered (place ∷ places) =
        by_bool (flag_at flags place)
        (λ set. rw set (ap (λ is. ids_in (slice_get ms place) ++ is) (ids_filtered places)))
        (λ unset. let none = none_at ms flags all place unset in
        rw (unset, none) (ids_filtered places))

  get_here : (front : List Sent) (m : Sent) (ms : List Sent)
      → slice_get (front ++ m ∷ ms) (length front) ≡ Some m
  get_here [] m ms = refl
  get_here (n ∷ front) m ms = get_here front m ms

  length_more : (front : List Sent) (m : Sent) → length (front ++ m ∷ []) ≡ suc (length front)
  length_more [] m = refl
  length_more (n ∷ front) m = ap suc (length_more front m)

  ids_set : (front ms : List Sent) (flags : List Bool) → AreRuled xs ms flags
      → ids_at (front ++ ms) (set_from (length front) flags) ≡ declared_ids xs ms
  ids_set front [] [] all = refl
  ids_set front [] (flag ∷ flags) all = absurd all
  ids_set front (m ∷ ms) [] all = absurd all
  ids_set front (m ∷ ms) (flag ∷ flags) all =
      let later : ids_at (front ++ m ∷ ms) (set_from (suc (length front)) flags)
      ≡ declared_ids xs ms =
      ap₂ (λ all n. ids_at all (set_from n flags)) (sym (append_assoc front (m ∷ []) ms))
      (sym (length_more front m))
      ∙ ids_set (front ++ m ∷ []) ms flags all.1 in
      by_bool flag
      (λ set. ap (ids_at (front ++ m ∷ ms)) (set_here (length front) flag flags set)
      ∙ ap₂ (λ o is. ids_in o ++ is) (get_here front m ms) later)
      (λ unset. ap (ids_at (front ++ m ∷ ms)) (not_here (length front) flag flags unset)
      ∙ later ∙ ap (λ is. is ++ declared_ids xs ms) (sym (unruled m (all.0 unset))))

  -- The messages with declarations keep their order, so the declared ids do.
  pub ruled_ids_stay : (ms ns : List Sent) (flags : List Bool) (places : List ℕ)
      → AreRuled xs ms flags → AreAt ms places ns → KeepsRuled flags places
      → declared_ids xs ns ≡ declared_ids xs ms
  ruled_ids_stay ms ns flags places all at keeps =
      sym (ids_there ms ns places at)
      ∙ sym (ids_filtered ms flags all places)
      ∙ ap (ids_at ms) keeps
      ∙ ids_set [] ms flags all
