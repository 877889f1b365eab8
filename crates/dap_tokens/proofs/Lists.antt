-- Prefixes of lists.
use Rattle.std.proofs.Common.{◌≡◌, ℕ, ◌==◌, ◌≤◌, Bool, true, false, List}
use Rattle.std.proofs.Common.{[], ◌∷◌, ◌++◌, length, take, refl, sym, ap, ◌∙◌, arith}
use Rattle.std.specs.List.{take_while}
use Rattle.std.specs.Str.{bytes_eq}
use Rattle.std.proofs.lemmas.List.Sums.{take_while-cons}
use Rattle.std.proofs.lemmas.Bool.{eq-eqb}
use Rattle.dap_words.specs.Runs.{all_of, begins_with}
use Rattle.dap_tokens.proofs.Booleans.{by_bool, and_left, and_right, and_both}

pub yes : (p : ℕ → Bool) (b : ℕ) (s : List ℕ) → p b ≡ true
    → take_while p (b ∷ s) ≡ b ∷ take_while p s
yes p b s h = take_while-cons p b s ∙ rw h refl

pub no : (p : ℕ → Bool) (b : ℕ) (s : List ℕ) → p b ≡ false → take_while p (b ∷ s) ≡ []
no p b s h = take_while-cons p b s ∙ rw h refl

pub run_taken : (p : ℕ → Bool) (run rest : List ℕ) → all_of p run ≡ true
    → begins_with p rest ≡ false → take_while p (run ++ rest) ≡ run
run_taken p [] [] h e = refl
run_taken p [] (b ∷ rest) h e = no p b rest e
run_taken p (b ∷ run) rest h e = yes p b (run ++ rest) (and_left (p b) (all_of p run) h)
    ∙ ap (λ x. b ∷ x) (run_taken p run rest (and_right (p b) (all_of p run) h) e)

pub all_taken : (p : ℕ → Bool) (s : List ℕ) → all_of p (take_while p s) ≡ true
all_taken p [] = refl
all_taken p (b ∷ s) = by_bool (p b)
    (λ k. ap (all_of p) (yes p b s k) ∙ and_both (p b) (all_of p (take_while p s)) k (all_taken p s))
    (λ k. ap (all_of p) (no p b s k))

-- the rest after the taken run
pub record Split (p : ℕ → Bool) (s : List ℕ) : Type 0 where
  pub rest : List ℕ
  pub whole : s ≡ take_while p s ++ rest
  pub ends : begins_with p rest ≡ false

pub split : (p : ℕ → Bool) (s : List ℕ) → Split p s
split p [] = record {
  rest = [];
  whole = refl;
  ends = refl;
}
split p (b ∷ s) = by_bool (p b)
    (λ k. let more = split p s in
    record {
      rest = more.rest;
      whole = ap (λ x. b ∷ x) more.whole ∙ ap (λ x. x ++ more.rest) (sym (yes p b s k));
      ends = more.ends;
    })
    (λ k. record {
      rest = b ∷ s;
      whole = ap (λ x. x ++ b ∷ s) (sym (no p b s k));
      ends = k;
    })

pub taken_within : (p : ℕ → Bool) (s : List ℕ) → length (take_while p s) ≤ length s
taken_within p [] = omega arith
taken_within p (b ∷ s) = by_bool (p b)
    (λ k. let more = taken_within p s in
    let e = ap length (yes p b s k) in omega arith)
    (λ k. let e = ap length (no p b s k) in omega arith)

-- ---- comparisons

-- a text that starts with p, and one byte more
pub front_eq : (c : ℕ) (p r : List ℕ) → bytes_eq (take (length (p ++ c ∷ [])) (p ++ r)) (p ++ c ∷ [])
    ≡ begins_with (λ b. b == c) r
front_eq c [] [] = refl
front_eq c [] (b ∷ r) = by_bool (b == c) (λ k. rw k refl) (λ k. rw k refl)
front_eq c (b ∷ p) r = rw (eq-eqb b b refl) (front_eq c p r)
