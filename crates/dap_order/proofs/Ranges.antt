-- Ranges of numbers, and lists of places.
use Rattle.std.proofs.Common.{◌≡◌, ℕ, ◌+◌, zero, suc, List, [], ◌∷◌, ◌++◌, map, Some}
use Rattle.std.proofs.Common.{option_map, refl, ap, ◌∙◌, arith, add-one}
use Rattle.std.specs.Prelude.{slice_get}
use Rattle.std.specs.List.{range_with_len}

range_push : (k n : ℕ) → range_with_len k (suc n) ≡ range_with_len k n ++ (k + n) ∷ []
range_push k zero = ap (λ z. z ∷ []) (omega arith)
range_push k (suc n) =
    ap (λ zs. k ∷ zs) (range_push (k + 1) n
    ∙ ap (λ z. range_with_len (k + 1) n ++ z ∷ []) (omega arith))

pub range_more : (n : ℕ) → range_with_len 0 (n + 1) ≡ range_with_len 0 n ++ n ∷ []
range_more n =
    ap (range_with_len 0) (add-one n) ∙ range_push 0 n
    ∙ ap (λ z. range_with_len 0 n ++ z ∷ []) (omega arith)

module _ {A B : Type 0} (f : A → B) where
  get_of_map : (xs : List A) (i : ℕ) → slice_get (map f xs) i ≡ option_map f (slice_get xs i)
  get_of_map [] i = refl
  get_of_map (x ∷ xs) zero = refl
  get_of_map (x ∷ xs) (suc i) = get_of_map xs i

  somes : (xs : List A) → map (option_map f) (map Some xs) ≡ map Some (map f xs)
  somes [] = refl
  somes (x ∷ xs) = ap (λ zs. Some (f x) ∷ zs) (somes xs)

  picked : (xs : List A) (is : List ℕ)
      → map (slice_get (map f xs)) is ≡ map (option_map f) (map (slice_get xs) is)
  picked xs [] = refl
  picked xs (i ∷ is) =
      ap (λ o. o ∷ map (slice_get (map f xs)) is) (get_of_map xs i)
      ∙ ap (λ os. option_map f (slice_get xs i) ∷ os) (picked xs is)

  -- The items at these places, including after a map.
  pub picked_map : (xs ys : List A) (is : List ℕ) → map (slice_get xs) is ≡ map Some ys
      → map (slice_get (map f xs)) is ≡ map Some (map f ys)
  picked_map xs ys is e = picked xs is ∙ ap (map (option_map f)) e ∙ somes ys
