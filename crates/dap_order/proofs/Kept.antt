-- Swaps preserve the items, and the sequence of chosen items if no two of them are free with each
-- other.
use Rattle.std.proofs.Common.{◌≡◌, Bool, true, false, cond, List, [], ◌∷◌, ◌++◌}
use Rattle.std.proofs.Common.{refl, sym, ap, ◌∙◌, subst}
use Rattle.std.specs.List.{filter}
use Rattle.std.specs.List.Sorted.{IsPermutation}
use Rattle.std.proofs.lemmas.Bool.{both_ways}
use Rattle.std.proofs.lemmas.List.Elements.{filter-append}
use Rattle.std.proofs.lemmas.List.Sorted.{IsPermutation-refl, IsPermutation-trans}
use Rattle.std.proofs.lemmas.List.Sorted.{IsPermutation-append_left, IsPermutation-append_right}
use Rattle.std.proofs.lemmas.List.Sorted.{IsPermutation-reverse}
use Rattle.dap_order.specs.Swaps.{Swapped, Reordered, unmoved, swapped, NoneFree}

module _ {X : Type 0} (free : X → X → Bool) where
  pub one_swap : (front back : List X) (x y : X) → free x y ≡ true
      → Swapped free (front ++ x ∷ y ∷ back) (front ++ y ∷ x ∷ back)
  one_swap front back x y f = record {
    front = front;
    back = back;
    x = x;
    y = y;
    are_free = f;
    before = refl;
    after = refl;
  }

  two_swapped : (x y : X) (zs : List X) → IsPermutation (x ∷ y ∷ zs) (y ∷ x ∷ zs)
  two_swapped x y zs =
      IsPermutation-append_left zs (x ∷ y ∷ []) (y ∷ x ∷ []) (IsPermutation-reverse (x ∷ y ∷ []))

  swapped_permutation : (xs ys : List X) → Swapped free xs ys → IsPermutation xs ys
  swapped_permutation xs ys one =
      subst (λ zs. IsPermutation zs ys) (sym one.before)
      (subst (IsPermutation (one.front ++ one.x ∷ one.y ∷ one.back)) (sym one.after)
      (IsPermutation-append_right one.front (one.x ∷ one.y ∷ one.back) (one.y ∷ one.x ∷ one.back)
      (two_swapped one.x one.y one.back)))

  pub reordered_permutation : (xs ys : List X) → Reordered free xs ys → IsPermutation xs ys
  reordered_permutation xs ys unmoved = IsPermutation-refl xs
  reordered_permutation xs ys (swapped {ys = us} p one) =
      IsPermutation-trans xs us ys (reordered_permutation xs us p) (swapped_permutation us ys one)

  module _ (chosen : X → Bool) (apart : NoneFree free chosen) where
    two_kept : (x y : X) (zs : List X) → free x y ≡ true
        → filter chosen (x ∷ y ∷ zs) ≡ filter chosen (y ∷ x ∷ zs)
    two_kept x y zs f = at (chosen x) (chosen y) refl refl
      where
        at : (b c : Bool) → chosen x ≡ b → chosen y ≡ c
            → cond (chosen x) (x ∷ cond (chosen y) (y ∷ filter chosen zs) (filter chosen zs))
            (cond (chosen y) (y ∷ filter chosen zs) (filter chosen zs))
            ≡ cond (chosen y) (y ∷ cond (chosen x) (x ∷ filter chosen zs) (filter chosen zs))
            (cond (chosen x) (x ∷ filter chosen zs) (filter chosen zs))
        at true true p q = absurd (both_ways (free x y) (apart x y p q) f)
        at true false p q = rw (p, q) refl
        at false true p q = rw (p, q) refl
        at false false p q = rw (p, q) refl

    swapped_filter : (xs ys : List X) → Swapped free xs ys → filter chosen xs ≡ filter chosen ys
    swapped_filter xs ys one =
        ap (filter chosen) one.before
        ∙ filter-append chosen one.front (one.x ∷ one.y ∷ one.back)
        ∙ ap (λ zs. filter chosen one.front ++ zs)
        (two_kept one.x one.y one.back one.are_free)
        ∙ sym (filter-append chosen one.front (one.y ∷ one.x ∷ one.back))
        ∙ ap (filter chosen) (sym one.after)

    pub reordered_filter : (xs ys : List X) → Reordered free xs ys
        → filter chosen xs ≡ filter chosen ys
    reordered_filter xs ys unmoved = refl
    reordered_filter xs ys (swapped {ys = us} p one) =
        reordered_filter xs us p ∙ swapped_filter us ys one
