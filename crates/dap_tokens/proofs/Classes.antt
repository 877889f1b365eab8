-- The bytes of names.
use Rattle.std.proofs.Common.{◌≡◌, ℕ, ◌==◌, Bool, true, false, not, List, [], ◌∷◌, ◌++◌, refl, ap}
use Rattle.std.proofs.Common.{◌∙◌, sym}
use Rattle.std.specs.Char.{is_ascii_digit}
use Rattle.std.proofs.lemmas.Bool.{eqb-true}
use Rattle.dap_words.specs.Runs.{all_of, begins_with}
use Rattle.dap_tokens.specs.Tokens.{is_of_label, is_label, is_numeral}
use Rattle.dap_tokens.proofs.Booleans.{by_bool, and_left, and_right, and_both, no_test, not_false}

abbrev pub not_opening : ℕ → Bool
not_opening b = not (b == 60)

pub all_append : (class : ℕ → Bool) (s t : List ℕ) → all_of class s ≡ true → all_of class t ≡ true
    → all_of class (s ++ t) ≡ true
all_append class [] t h k = k
all_append class (b ∷ s) t h k = and_both (class b) (all_of class (s ++ t))
    (and_left (class b) (all_of class s) h)
    (all_append class s t (and_right (class b) (all_of class s) h) k)

-- a byte of a class without `<`
pub not_60 : (class : ℕ → Bool) (b : ℕ) → class 60 ≡ false → class b ≡ true
    → not_opening b ≡ true
not_60 class b other h = by_bool (b == 60)
    (λ k. no_test (class 60) (ap class (sym (eqb-true b 60 k)) ∙ h) other)
    (λ k. not_false (b == 60) k)

pub all_not_60 : (class : ℕ → Bool) (s : List ℕ) → class 60 ≡ false → all_of class s ≡ true
    → all_of not_opening s ≡ true
all_not_60 class [] other h = refl
all_not_60 class (b ∷ s) other h = and_both (not_opening b) (all_of not_opening s)
    (not_60 class b other (and_left (class b) (all_of class s) h))
    (all_not_60 class s other (and_right (class b) (all_of class s) h))

-- the bytes of a name after its first byte
abbrev pub name_rest : List ℕ → List ℕ → List ℕ
name_rest label k = label ++ 32 ∷ [] ++ k ++ 62 ∷ []

pub digits_of_numeral : (k : List ℕ) → is_numeral k ≡ true → all_of is_ascii_digit k ≡ true
digits_of_numeral k h = and_left (all_of is_ascii_digit k) _
    (and_right (begins_with is_ascii_digit k) _ h)

pub rest_not_60 : (label k : List ℕ) → is_label label ≡ true → is_numeral k ≡ true
    → all_of not_opening (name_rest label k) ≡ true
rest_not_60 label k l h =
    all_append not_opening (label ++ 32 ∷ [] ++ k) (62 ∷ [])
    (all_append not_opening (label ++ 32 ∷ []) k
    (all_append not_opening label (32 ∷ [])
    (all_not_60 is_of_label label refl (and_right _ (all_of is_of_label label) l)) refl)
    (all_not_60 is_ascii_digit k refl (digits_of_numeral k h))) refl
