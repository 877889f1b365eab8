-- Items of lists by their places.
use Rattle.std.proofs.Common.{◌≡◌, ℕ, zero, suc, ◌<◌, List, [], ◌∷◌, ◌++◌, map, length}
use Rattle.std.proofs.Common.{Some, ◌⊎◌, inl, inr, refl, sym, ap, ◌∙◌, arith, get_or}
use Rattle.std.specs.Prelude.{slice_get}

module _ {A : Type 0} where
  pub get_below : (xs : List A) (i : ℕ) (x : A) → slice_get xs i ≡ Some x → i < length xs
  get_below [] i x e = absurd (cc)
  get_below (y ∷ xs) zero x e = omega arith
  get_below (y ∷ xs) (suc i) x e = omega (arith, get_below xs i x e)

  pub get_at : (xs : List A) (i : ℕ) (d : A) → i < length xs
      → slice_get xs i ≡ Some (get_or xs i d)
  get_at [] i d low = absurd (omega arith)
  get_at (y ∷ xs) zero d low = refl
  get_at (y ∷ xs) (suc i) d low = get_at xs i d (omega arith)

  pub there : (xs : List A) (i : ℕ) → i < length xs → (x : A) × (slice_get xs i ≡ Some x)
  there [] i low = absurd (omega arith)
  there (y ∷ xs) zero low = (y, refl)
  there (y ∷ xs) (suc i) low = there xs i (omega arith)

  pub get_old : (xs : List A) (y : A) (i : ℕ) → i < length xs
      → slice_get (xs ++ y ∷ []) i ≡ slice_get xs i
  get_old [] y i low = absurd (omega arith)
  get_old (x ∷ xs) y zero low = refl
  get_old (x ∷ xs) y (suc i) low = get_old xs y i (omega arith)

  pub get_new : (xs : List A) (y : A) (i : ℕ) → i ≡ length xs
      → slice_get (xs ++ y ∷ []) i ≡ Some y
  get_new [] y zero e = refl
  get_new [] y (suc i) e = absurd (omega (arith, e))
  get_new (x ∷ xs) y zero e = absurd (omega (arith, e))
  get_new (x ∷ xs) y (suc i) e = get_new xs y i (omega (arith, e))

  -- An item of the longer list is an item of the shorter list, or the new one.
  pub get_cases : (xs : List A) (y : A) (i : ℕ) (x : A) → slice_get (xs ++ y ∷ []) i ≡ Some x
      → (slice_get xs i ≡ Some x) ⊎ ((i ≡ length xs) × (y ≡ x))
  get_cases [] y zero x e = inr (refl, cc)
  get_cases [] y (suc i) x e = absurd (cc)
  get_cases (z ∷ xs) y zero x e = inl e
  get_cases (z ∷ xs) y (suc i) x e = elim (get_cases xs y i x e) [
    | inl h ↦ inl h
    | inr w ↦ inr (ap suc w.0, w.1)
  ]

  -- Each place has only one item.
  pub one_item : (xs : List A) (i : ℕ) (x y : A) → slice_get xs i ≡ Some x
      → slice_get xs i ≡ Some y → x ≡ y
  one_item xs i x y e h = let f : Some x ≡ Some y = sym e ∙ h in cc

  pub got : (xs : List A) (i : ℕ) (x : A) → i < length xs → x ≡ get_or xs i x
      → slice_get xs i ≡ Some x
  got xs i x low e = get_at xs i x low ∙ ap (λ z. Some z) (sym e)

module _ {A B : Type 0} (f : A → B) where
  pub get_map : (xs : List A) (i : ℕ) (x : A) → slice_get xs i ≡ Some x
      → slice_get (map f xs) i ≡ Some (f x)
  get_map [] i x e = absurd (cc)
  get_map (y ∷ xs) zero x e = let same : y ≡ x = cc in ap (λ z. Some (f z)) same
  get_map (y ∷ xs) (suc i) x e = get_map xs i x e

  pub get_mapped : (xs : List A) (i : ℕ) (y : B) → slice_get (map f xs) i ≡ Some y
      → (x : A) × (slice_get xs i ≡ Some x) × (f x ≡ y)
  get_mapped [] i y e = absurd (cc)
  get_mapped (x ∷ xs) zero y e = (x, refl, cc)
  get_mapped (x ∷ xs) (suc i) y e = get_mapped xs i y e

  pub len_map : (xs : List A) → length (map f xs) ≡ length xs
  len_map [] = refl
  len_map (x ∷ xs) = omega (arith, len_map xs)
