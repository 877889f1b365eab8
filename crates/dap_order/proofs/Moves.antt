-- Sequences of swaps. Swaps insert an item at its place.
use Rattle.std.proofs.Common.{◌≡◌, Bool, true, inl, inr, List, [], ◌∷◌, ◌++◌, refl}
use Rattle.std.proofs.Common.{sym, ap, ◌∙◌, subst}
use Rattle.std.proofs.lemmas.Bool.{and_parts, cases_Bool}
use Rattle.std.proofs.lemmas.List.{append_assoc, append-nil}
use Rattle.dap_order.specs.Swaps.{Swaps, AreSwaps, BothWays, Swapped, Reordered, unmoved, swapped}
use Rattle.dap_order.specs.Order.{all_free, goes_before, put, put_all, order}
use Rattle.dap_order.proofs.Put.{put-here, put-later}

module _ {X : Type 0} (free : X → X → Bool) where
  pub reordered_on : (xs ys zs : List X) → Reordered free xs ys → Reordered free ys zs
      → Reordered free xs zs
  reordered_on xs ys zs p unmoved = p
  reordered_on xs ys zs p (swapped {ys = us} q one) = swapped (reordered_on xs ys us p q) one

  pub reordered_after : (x : X) (ys zs : List X) → Reordered free ys zs
      → Reordered free (x ∷ ys) (x ∷ zs)
  reordered_after x ys zs unmoved = unmoved
  reordered_after x ys zs (swapped {ys = us} p one) =
      swapped (reordered_after x ys us p) (record {
        front = x ∷ one.front;
        back = one.back;
        x = one.x;
        y = one.y;
        are_free = one.are_free;
        before = ap (λ vs. x ∷ vs) one.before;
        after = ap (λ vs. x ∷ vs) one.after;
      })

  pub reordered_before : (xs ys zs : List X) → Reordered free xs ys
      → Reordered free (xs ++ zs) (ys ++ zs)
  reordered_before xs ys zs unmoved = unmoved
  reordered_before xs ys zs (swapped {ys = us} p one) =
      swapped (reordered_before xs us zs p) (record {
        front = one.front;
        back = one.back ++ zs;
        x = one.x;
        y = one.y;
        are_free = one.are_free;
        before = ap (λ vs. vs ++ zs) one.before
            ∙ append_assoc one.front (one.x ∷ one.y ∷ one.back) zs;
        after = ap (λ vs. vs ++ zs) one.after
            ∙ append_assoc one.front (one.y ∷ one.x ∷ one.back) zs;
      })

  module _ (both_ways : BothWays free) where
    swapped_back : (xs ys : List X) → Swapped free xs ys → Swapped free ys xs
    swapped_back xs ys one = record {
      front = one.front;
      back = one.back;
      x = one.y;
      y = one.x;
      are_free = both_ways one.x one.y one.are_free;
      before = one.after;
      after = one.before;
    }

    pub reordered_back : (xs ys : List X) → Reordered free xs ys → Reordered free ys xs
    reordered_back xs ys unmoved = unmoved
    reordered_back xs ys (swapped {ys = us} p one) =
        reordered_on ys us xs (swapped unmoved (swapped_back us ys one)) (reordered_back xs us p)

module _ {X : Type 0} (s : Swaps X) (are : AreSwaps s) where
  -- An item moves to the front of a list if it is free with all items of the list.
  pub moved_to_front : (x : X) (ys : List X) → all_free s x ys ≡ true
      → Reordered s.free (ys ++ x ∷ []) (x ∷ ys)
  moved_to_front x [] f = unmoved
  moved_to_front x (y ∷ ys) f =
      let here = and_parts (s.free x y) (all_free s x ys) f in
      swapped (reordered_after s.free y (ys ++ x ∷ []) (x ∷ ys)
      (moved_to_front x ys here.1)) (record {
        front = [];
        back = ys;
        x = y;
        y = x;
        are_free = are.both_ways x y here.0;
        before = refl;
        after = refl;
      })

  pub put_reordered : (ys : List X) (x : X) → Reordered s.free (ys ++ x ∷ []) (put s ys x)
  put_reordered [] x = unmoved
  put_reordered (y ∷ ys) x = elim (cases_Bool (goes_before s x y ys)) [
    | inl here ↦ subst (Reordered s.free (y ∷ (ys ++ x ∷ []))) (sym (put-here s x y ys here))
        (moved_to_front x (y ∷ ys)
        (and_parts (all_free s x (y ∷ ys)) (s.less x y) here).0)
    | inr later ↦ subst (Reordered s.free (y ∷ (ys ++ x ∷ []))) (sym (put-later s x y ys later))
        (reordered_after s.free y (ys ++ x ∷ []) (put s ys x) (put_reordered ys x))
  ]

  put_all_reordered : (done xs : List X) → Reordered s.free (done ++ xs) (put_all s done xs)
  put_all_reordered done [] = subst (λ ys. Reordered s.free ys done) (sym (append-nil done)) unmoved
  put_all_reordered done (x ∷ xs) =
      subst (λ ys. Reordered s.free ys (put_all s (put s done x) xs))
      (append_assoc done (x ∷ []) xs)
      (reordered_on s.free ((done ++ x ∷ []) ++ xs) (put s done x ++ xs)
      (put_all s (put s done x) xs)
      (reordered_before s.free (done ++ x ∷ []) (put s done x) xs (put_reordered done x))
      (put_all_reordered (put s done x) xs))

  -- Swaps lead to the list in order.
  pub order_reordered : (xs : List X) → Reordered s.free xs (order s xs)
  order_reordered xs = put_all_reordered [] xs
