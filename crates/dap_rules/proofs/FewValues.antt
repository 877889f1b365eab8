-- The values of labels: a list of ids has few values or too many, and the numbers are small.
use Rattle.std.proofs.Common.{◌≡◌, ◌⊎◌, inl, inr, ℕ, ◌+◌, ◌<◌, ◌≤◌, List, [], ◌∷◌, ◌++◌, length}
use Rattle.std.proofs.Common.{refl, ap, arith, length-append}
use Rattle.std.proofs.lemmas.Bool.{cases_lt}
use Rattle.std.specs.List.{list_any, AllByRecursion}
use Rattle.std.specs.Str.{bytes_eq}
use Rattle.dap_tokens.specs.Naming.{Id}
use Rattle.dap_naming.specs.Numbers.{add, add_all, distinct, number, values}
use Rattle.dap_naming.specs.Sessions.{AreFew, HasTooMany}
use Rattle.dap_naming.proofs.Additions.{distinct-append, same_bytes}
use Rattle.dap_naming.proofs.Lists.{by_bool, place_within}
use Rattle.dap_input.specs.{Limits.AreSound, declared.limits.Limits.Limits}
use Rattle.dap_rules.proofs.NamedSound.{AreSmall}

-- ---- more ids have no fewer values

length-add : (vs : List (List ℕ)) (v : List ℕ) → length vs ≤ length (add vs v)
length-add vs v =
    by_bool (list_any (bytes_eq v) vs) (λ known. rw known (omega arith))
    (λ new. rw new (omega (arith, length-append vs (v ∷ []))))

length-add_all : (vs ws : List (List ℕ)) → length vs ≤ length (add_all vs ws)
length-add_all vs [] = omega arith
length-add_all vs (w ∷ ws) = omega (arith, length-add vs w, length-add_all (add vs w) ws)

pub few_front : (limit : ℕ) (is js : List Id) → AreFew limit (is ++ js) → AreFew limit is
few_front limit is js few label =
    let all = few label in
    omega (
      arith,
      all,
      ap length (distinct-append label is js),
      length-add_all (distinct label is) (values label js),
    )

pub none_few : (limit : ℕ) → AreFew limit []
none_few limit label = omega arith

-- ---- few values, or too many

module _ (limit : ℕ) (is : List Id) where
  abbrev IsFew : Id → Type 0
  IsFew i = length (distinct i.0 is) ≤ limit

  each_few : (js : List Id) → AllByRecursion IsFew js ⊎ HasTooMany limit is
  each_few [] = inl tt
  each_few (j ∷ js) = both (cases_lt limit (length (distinct j.0 is))) (each_few js)
    where
      both : (limit < length (distinct j.0 is)) ⊎ IsFew j
          → AllByRecursion IsFew js ⊎ HasTooMany limit is
          → AllByRecursion IsFew (j ∷ js) ⊎ HasTooMany limit is
      both (inl many) rest = inr (j.0, many)
      both (inr few) (inl rest) = inl (few, rest)
      both (inr few) (inr many) = inr many

  -- The label is without values in the list, or has few among all ids.
  few_or_none : (label : List ℕ) (js : List Id) → AllByRecursion IsFew js
      → (values label js ≡ []) ⊎ (length (distinct label is) ≤ limit)
  few_or_none label [] each = inl refl
  few_or_none label (j ∷ js) each =
      by_bool (bytes_eq label j.0)
      (λ same. inr (rw (same_bytes label j.0 same) each.0))
      (λ other. rw other (few_or_none label js each.1))

  of_none : (label : List ℕ) → values label is ≡ [] → length (distinct label is) ≤ limit
  of_none label none = rw none (omega arith)

  few_of_each : AllByRecursion IsFew is → AreFew limit is
  few_of_each each label = decide (few_or_none label is each)
    where
      decide : (values label is ≡ []) ⊎ (length (distinct label is) ≤ limit)
          → length (distinct label is) ≤ limit
      decide (inl none) = of_none label none
      decide (inr few) = few

  pub few_or_many : AreFew limit is ⊎ HasTooMany limit is
  few_or_many = decide (each_few is)
    where
      decide : AllByRecursion IsFew is ⊎ HasTooMany limit is → AreFew limit is ⊎ HasTooMany limit is
      decide (inl each) = inl (few_of_each each)
      decide (inr many) = inr many

  pub few_not_many : AreFew limit is → HasTooMany limit is → ⊥
  few_not_many few many = let at_most = few many.0 in let more = many.1 in omega arith

-- ---- numbers

-- A number is at most one more than the limit of values.
small_number : (limit : ℕ) (is : List Id) → AreFew limit is → (label v : List ℕ)
    → number is label v ≤ limit + 1
small_number limit is few label v =
    let most = few label in
    omega (arith, most, place_within (bytes_eq v) (distinct label is))

-- The numbers of ids within the limit have at most 64 bits.
pub few_are_small : (limits : Limits) → AreSound limits → (is : List Id) → AreFew limits.ids is
    → AreSmall (number is)
few_are_small limits sound is few label v =
    let most = sound.ids in
    let limit = small_number limits.ids is few label v in
    omega (arith, most, limit)
