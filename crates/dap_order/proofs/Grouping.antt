-- Groups of keys, while a list of keys is read.
use Rattle.std.proofs.Common.{◌≡◌, ℕ, zero, suc, ◌+◌, ◌<◌, ◌≤◌, ◌⊎◌, inl, inr, List, [], ◌∷◌, ◌++◌}
use Rattle.std.proofs.Common.{length, refl, sym, ap, ◌∙◌, arith, get_or}
use Rattle.std.proofs.Common.{length-append}
use Rattle.std.specs.Prelude.{slice_get}
use Rattle.std.proofs.lemmas.Bool.{cases_lt}
use Rattle.dap_order.specs.Keys.{Key}
use Rattle.dap_order.specs.Looks.{AreGroups}

pub or_old : {A : Type 0} (xs : List A) (y : A) (i : ℕ) (d : A) → i < length xs
    → get_or (xs ++ y ∷ []) i d ≡ get_or xs i d
or_old [] y i d low = absurd (omega arith)
or_old (x ∷ xs) y zero d low = refl
or_old (x ∷ xs) y (suc i) d low = or_old xs y i d (omega arith)

pub or_new : {A : Type 0} (xs : List A) (y : A) (i : ℕ) (d : A) → i ≡ length xs
    → get_or (xs ++ y ∷ []) i d ≡ y
or_new [] y zero d e = refl
or_new [] y (suc i) d e = absurd (omega (arith, e))
or_new (x ∷ xs) y zero d e = absurd (omega (arith, e))
or_new (x ∷ xs) y (suc i) d e = or_new xs y i d (omega (arith, e))

module _ (ks : List Key) (n : ℕ) (groups firsts : List ℕ) (are : AreGroups ks n groups firsts) where
  -- The next place has the key of an earlier one.
  pub group_again : (p : ℕ) → p < n → slice_get ks p ≡ slice_get ks n
      → AreGroups ks (n + 1) (groups ++ get_or groups p 0 ∷ []) firsts
  group_again p low same = record {
    len = length-append groups (get_or groups p 0 ∷ []) ∙ ap (λ z. z + 1) are.len;
    in_range = λ j below. in_place j (cases_lt j n) below;
    earlier = λ g high. omega (arith, are.earlier g high);
    same = λ j below. the_same j (cases_lt j n) below;
  }
    where
      old : (j : ℕ) → j < n → get_or (groups ++ get_or groups p 0 ∷ []) j 0 ≡ get_or groups j 0
      old j below = or_old groups (get_or groups p 0) j 0 (omega (arith, are.len))

      new : (j : ℕ) → j ≡ n → get_or (groups ++ get_or groups p 0 ∷ []) j 0 ≡ get_or groups p 0
      new j at = or_new groups (get_or groups p 0) j 0 (at ∙ sym are.len)

      in_place : (j : ℕ) → (j < n) ⊎ (n ≤ j) → j < n + 1
          → get_or (groups ++ get_or groups p 0 ∷ []) j 0 < length firsts
      in_place j (inl b) below = omega (arith, old j b, are.in_range j b)
      in_place j (inr b) below = omega (arith, new j (omega arith), are.in_range p low)

      the_same : (j : ℕ) → (j < n) ⊎ (n ≤ j) → j < n + 1
          → slice_get ks (get_or firsts (get_or (groups ++ get_or groups p 0 ∷ []) j 0) 0)
          ≡ slice_get ks j
      the_same j (inl b) below =
          ap (λ g. slice_get ks (get_or firsts g 0)) (old j b) ∙ are.same j b
      the_same j (inr b) below =
          let at : j ≡ n = omega arith in
          ap (λ g. slice_get ks (get_or firsts g 0)) (new j at) ∙ are.same p low ∙ same
          ∙ ap (slice_get ks) (sym at)

  -- The next place starts a group.
  pub group_begun : (g : ℕ) → g ≡ length firsts
      → AreGroups ks (n + 1) (groups ++ g ∷ []) (firsts ++ n ∷ [])
  group_begun g e = record {
    len = length-append groups (g ∷ []) ∙ ap (λ z. z + 1) are.len;
    in_range = λ j below. in_place j (cases_lt j n) below;
    earlier = λ h high. first_low h (cases_lt h (length firsts)) high;
    same = λ j below. the_same j (cases_lt j n) below;
  }
    where
      long : length (firsts ++ n ∷ []) ≡ length firsts + 1
      long = length-append firsts (n ∷ [])

      old : (j : ℕ) → j < n → get_or (groups ++ g ∷ []) j 0 ≡ get_or groups j 0
      old j below = or_old groups g j 0 (omega (arith, are.len))

      new : (j : ℕ) → j ≡ n → get_or (groups ++ g ∷ []) j 0 ≡ g
      new j at = or_new groups g j 0 (at ∙ sym are.len)

      in_place : (j : ℕ) → (j < n) ⊎ (n ≤ j) → j < n + 1
          → get_or (groups ++ g ∷ []) j 0 < length (firsts ++ n ∷ [])
      in_place j (inl b) below = omega (arith, old j b, are.in_range j b, long)
      in_place j (inr b) below = omega (arith, new j (omega arith), long, e)

      first_low : (h : ℕ) → (h < length firsts) ⊎ (length firsts ≤ h)
          → h < length (firsts ++ n ∷ []) → get_or (firsts ++ n ∷ []) h 0 < n + 1
      first_low h (inl b) high = omega (arith, or_old firsts n h 0 b, are.earlier h b)
      first_low h (inr b) high = omega (arith, or_new firsts n h 0 (omega (arith, long)))

      the_same : (j : ℕ) → (j < n) ⊎ (n ≤ j) → j < n + 1
          → slice_get ks (get_or (firsts ++ n ∷ []) (get_or (groups ++ g ∷ []) j 0) 0)
          ≡ slice_get ks j
      the_same j (inl b) below =
          ap (λ h. slice_get ks (get_or (firsts ++ n ∷ []) h 0)) (old j b)
          ∙ ap (slice_get ks) (or_old firsts n (get_or groups j 0) 0 (are.in_range j b))
          ∙ are.same j b
      the_same j (inr b) below =
          let at : j ≡ n = omega arith in
          ap (λ h. slice_get ks (get_or (firsts ++ n ∷ []) h 0)) (new j at)
          ∙ ap (slice_get ks) (or_new firsts n g 0 e ∙ sym at)
