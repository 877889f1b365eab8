-- The place of the first item that passes a test, while a list grows.
use Rattle.std.proofs.Common.{◌≡◌, ℕ, suc, Bool, true, false, inl, inr, List, [], ◌∷◌, ◌++◌, length}
use Rattle.std.proofs.Common.{Option, Some, None, refl, sym, ap, ◌∙◌}
use Rattle.std.specs.Prelude.{option_map}
use Rattle.std.proofs.lemmas.Bool.{cases_Bool, cond-true, cond-false}
use Rattle.dap_order.specs.ByPlace.{first_place}

module _ {X : Type 0} where
  pub first_place_agree : (p q : X → Bool) → ((x : X) → p x ≡ q x) → (xs : List X)
      → first_place p xs ≡ first_place q xs
  first_place_agree p q same [] = refl
  first_place_agree p q same (x ∷ xs) =
      let one = same x in
      let rest = first_place_agree p q same xs in cc

  pub first_place_none : (p : X → Bool) → ((x : X) → p x ≡ false) → (xs : List X)
      → first_place p xs ≡ None
  first_place_none p never [] = refl
  first_place_none p never (x ∷ xs) =
      cond-false (p x) (Some 0) (option_map suc (first_place p xs)) (never x)
      ∙ ap (option_map suc) (first_place_none p never xs)

module _ {X : Type 0} (p : X → Bool) where
  at_head : (x : X) (xs : List X) → p x ≡ true → first_place p (x ∷ xs) ≡ Some 0
  at_head x xs h = cond-true (p x) (Some 0) (option_map suc (first_place p xs)) h

  at_tail : (x : X) (xs : List X) → p x ≡ false
      → first_place p (x ∷ xs) ≡ option_map suc (first_place p xs)
  at_tail x xs h = cond-false (p x) (Some 0) (option_map suc (first_place p xs)) h

  pub first_place_skip : (xs : List X) (x : X) → p x ≡ false
      → first_place p (xs ++ x ∷ []) ≡ first_place p xs
  first_place_skip [] x h = at_tail x [] h
  first_place_skip (y ∷ xs) x h = elim (cases_Bool (p y)) [
    | inl t ↦ at_head y (xs ++ x ∷ []) t ∙ sym (at_head y xs t)
    | inr f ↦ at_tail y (xs ++ x ∷ []) f ∙ ap (option_map suc) (first_place_skip xs x h)
        ∙ sym (at_tail y xs f)
  ]

  from_map : (o : Option ℕ) (a : ℕ) → option_map suc o ≡ Some a
      → (b : ℕ) × (o ≡ Some b) × (suc b ≡ a)
  from_map None a e = absurd (cc)
  from_map (Some b) a e = (b, refl, cc)

  from_none : (o : Option ℕ) → option_map suc o ≡ None → o ≡ None
  from_none None e = refl
  from_none (Some b) e = absurd (cc)

  pub first_place_kept : (xs : List X) (x : X) (a : ℕ) → first_place p xs ≡ Some a
      → first_place p (xs ++ x ∷ []) ≡ Some a
  first_place_kept [] x a e = absurd (cc)
  first_place_kept (y ∷ xs) x a e = elim (cases_Bool (p y)) [
    | inl t ↦ at_head y (xs ++ x ∷ []) t ∙ sym (at_head y xs t) ∙ e
    | inr f ↦ (
        let w = from_map (first_place p xs) a (sym (at_tail y xs f) ∙ e) in
        at_tail y (xs ++ x ∷ []) f ∙ ap (option_map suc) (first_place_kept xs x w.0 w.1)
        ∙ ap (λ n. Some n) w.2
        )
  ]

  pub first_place_new : (xs : List X) (x : X) → first_place p xs ≡ None → p x ≡ true
      → first_place p (xs ++ x ∷ []) ≡ Some (length xs)
  first_place_new [] x e h = at_head x [] h
  first_place_new (y ∷ xs) x e h = elim (cases_Bool (p y)) [
    | inl t ↦ absurd (let w = at_head y xs t in cc)
    | inr f ↦ at_tail y (xs ++ x ∷ []) f
        ∙ ap (option_map suc)
        (first_place_new xs x (from_none (first_place p xs) (sym (at_tail y xs f) ∙ e)) h)
  ]
