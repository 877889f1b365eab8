-- The order of the places of a list is the order of its items.
use Rattle.std.proofs.Common.{◌≡◌, ℕ, suc, ◌+◌, true, List, [], ◌∷◌, length}
use Rattle.std.proofs.Common.{map, Option, Some, None, refl, sym, ap, ◌∙◌, arith, ◌⊎◌}
use Rattle.std.specs.Prelude.{slice_get}
use Rattle.std.specs.List.{AllZip, range_with_len}
use Rattle.dap_order.specs.Swaps.{Swaps, AreSwaps}
use Rattle.dap_order.specs.Order.{order}
use Rattle.dap_order.specs.Alike.{AreAlike}
use Rattle.dap_order.specs.ByPlace.{passes_both, by_place}
use Rattle.dap_order.proofs.Alike.{order_alike}

module _ {X : Type 0} (s : Swaps X) (are : AreSwaps s) (xs : List X) where
  turned : (o p : Option X) → passes_both s.free o p ≡ true → passes_both s.free p o ≡ true
  turned None p h = absurd (cc)
  turned (Some x) None h = absurd (cc)
  turned (Some x) (Some y) h = are.both_ways x y h

  either : (o p : Option X) → passes_both s.free o p ≡ true
      → (passes_both s.less o p ≡ true) ⊎ (passes_both s.less p o ≡ true)
  either None p h = absurd (cc)
  either (Some x) None h = absurd (cc)
  either (Some x) (Some y) h = are.apart x y h

  itself : (o : Option X) → passes_both s.less o o ≡ true → ⊥
  itself None h = cc
  itself (Some x) h = are.less_itself x h

  on : (o p q : Option X) → passes_both s.less o p ≡ true → passes_both s.less p q ≡ true
      → passes_both s.less o q ≡ true
  on None p q h k = absurd (cc)
  on (Some x) None q h k = absurd (cc)
  on (Some x) (Some y) None h k = absurd (cc)
  on (Some x) (Some y) (Some z) h k = are.less_on x y z h k

  pub are_place_swaps : AreSwaps (by_place s xs)
  are_place_swaps = record {
    both_ways = λ i j. turned (slice_get xs i) (slice_get xs j);
    apart = λ i j. either (slice_get xs i) (slice_get xs j);
    less_itself = λ i. itself (slice_get xs i);
    less_on = λ i j k. on (slice_get xs i) (slice_get xs j) (slice_get xs k);
  }

module _ {X : Type 0} (s : Swaps X) (xs : List X) where
  -- The item at the place is x.
  abbrev IsAt : X → ℕ → Type 0
  IsAt x i = slice_get xs i ≡ Some x

  alike : AreAlike s (by_place s xs) IsAt
  alike = record {
    same_free = λ x y i j a b.
        sym (ap (λ o. passes_both s.free o (slice_get xs j)) a
        ∙ ap (passes_both s.free (Some x)) b);
    same_less = λ x y i j a b.
        sym (ap (λ o. passes_both s.less o (slice_get xs j)) a
        ∙ ap (passes_both s.less (Some x)) b);
  }

  items_there : (ys : List X) (is : List ℕ) → AllZip IsAt ys is
      → map (slice_get xs) is ≡ map Some ys
  items_there [] [] all = refl
  items_there [] (i ∷ is) all = absurd all
  items_there (y ∷ ys) [] all = absurd all
  items_there (y ∷ ys) (i ∷ is) all =
      ap (λ o. o ∷ map (slice_get xs) is) all.0
      ∙ ap (λ os. Some y ∷ os) (items_there ys is all.1)

  each_there : (ys : List X) (k : ℕ) → ((n : ℕ) → slice_get ys n ≡ slice_get xs (k + n))
      → AllZip IsAt ys (range_with_len k (length ys))
  each_there [] k same = tt
  each_there (y ∷ ys) k same = (
    ap (slice_get xs) (omega arith) ∙ sym (same 0),
    each_there ys (k + 1) (λ n. same (suc n) ∙ ap (slice_get xs) (omega arith)),
  )

  -- The items at the places in order are the items in order.
  pub order-by_place : map (slice_get xs) (order (by_place s xs) (range_with_len 0 (length xs)))
      ≡ map Some (order s xs)
  order-by_place =
      items_there (order s xs) (order (by_place s xs) (range_with_len 0 (length xs)))
      (order_alike s (by_place s xs) IsAt alike xs (range_with_len 0 (length xs))
      (each_there xs 0 (λ n. ap (slice_get xs) (omega arith))))
