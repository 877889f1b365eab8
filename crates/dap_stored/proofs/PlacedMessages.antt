-- The messages at places of a list.
use Rattle.std.proofs.Common.{◌≡◌, ℕ, zero, suc, ◌+◌, ◌<◌, List, [], ◌∷◌, ◌++◌, length, map, take}
use Rattle.std.proofs.Common.{get_or, Some, None, refl, sym, ap, ap₂, ◌∙◌, arith}
use Rattle.std.proofs.lemmas.List.{map-append, take_more}
use Rattle.std.specs.Prelude.{slice_get}
use Rattle.dap_message.specs.Message.{Sent}
use Rattle.dap_stored.specs.Sessions.{AreAt}

pub some_messages : (ms ns : List Sent) → map Some ms ≡ map Some ns → ms ≡ ns
some_messages [] [] same = refl
some_messages [] (n ∷ ns) same = absurd cc
some_messages (m ∷ ms) [] same = absurd cc
some_messages (m ∷ ms) (n ∷ ns) same =
    let first : m ≡ n = cc in
    let others : map Some ms ≡ map Some ns = cc in
    ap₂ (λ k ks. k ∷ ks) first (some_messages ms ns others)

module _ (all : List Sent) where
  -- Each place has a message.
  pub is_there : (places : List ℕ) (those : List Sent) (i : ℕ) → AreAt all places those
      → i < length places → slice_get all (get_or places i 0) ≡ None → ⊥
  is_there [] those i are low none = absurd (omega (arith, low))
  is_there (p ∷ places) [] i are low none = absurd cc
  is_there (p ∷ places) (m ∷ those) zero are low none = absurd cc
  is_there (p ∷ places) (m ∷ those) (suc i) are low none =
      let others : AreAt all places those = cc in
      is_there places those i others (omega (arith, low)) none

  -- One more place, and its message.
  pub more_at : (places : List ℕ) (those : List Sent) (i : ℕ) (m : Sent)
      → AreAt all (take i places) those → i < length places
      → slice_get all (get_or places i 0) ≡ Some m
      → AreAt all (take (i + 1) places) (those ++ m ∷ [])
  more_at places those i m are low is =
      ap (map (slice_get all)) (take_more places i 0 low)
      ∙ map-append (slice_get all) (take i places) (get_or places i 0 ∷ [])
      ∙ ap₂ (λ os o. os ++ o ∷ []) are is
      ∙ sym (map-append Some those (m ∷ []))
