-- Names at the start of a string.
use Rattle.std.proofs.Common.{◌≡◌, ℕ, ◌+◌, ◌-◌, ◌<◌, ◌==◌, Bool, true, cond, not, ◌&&◌, List, []}
use Rattle.std.proofs.Common.{◌∷◌, ◌++◌, length, take, drop, refl, sym, ap, ◌∙◌, append_assoc}
use Rattle.std.proofs.Common.{arith, nat_lt}
use Rattle.std.specs.List.{take_while}
use Rattle.std.specs.Str.{bytes_eq}
use Rattle.std.specs.Char.{is_ascii_digit}
use Rattle.std.proofs.lemmas.List.{drop_at, take-append-drop, length-append}
use Rattle.std.proofs.lemmas.Bool.{lt-ltb}
use Rattle.std.proofs.lemmas.Slice.Eq.{bytes_eq-Decides}
use Rattle.dap_words.specs.Runs.{all_of, begins_with}
use Rattle.dap_tokens.specs.Tokens.{is_numeral, name, opening, number_in, name_length}
use Rattle.dap_tokens.specs.Numerals.{numeral_length}
use Rattle.dap_tokens.proofs.Booleans.{by_bool, and_left, and_right}
use Rattle.dap_tokens.proofs.Lists.{yes, no, run_taken, all_taken, split, front_eq}

-- ---- the number after the opening

pub numeral_read : (s : List ℕ) (n : ℕ) → n ≡ length (take_while is_ascii_digit s)
    → numeral_length s ≡ cond (nat_lt 0 n && (not (begins_with (λ b. b == 48) s)
    && begins_with (λ b. b == 62) (drop n s))) n 0
numeral_read [] n e = rw e refl
numeral_read (b ∷ s) n e = by_bool (is_ascii_digit b)
    (λ k. let some = lt-ltb 0 (length (b ∷ take_while is_ascii_digit s)) (omega arith) in
    rw (e, yes is_ascii_digit b s k) (rw (k, all_taken is_ascii_digit s) (rw some refl)))
    (λ k. rw (e, no is_ascii_digit b s k) refl)

abbrev digits : List ℕ → List ℕ
digits s = take_while is_ascii_digit s

-- the digits are the number of a name
abbrev is_closed : List ℕ → Bool
is_closed s = is_numeral (digits s) && begins_with (λ b. b == 62) (drop (length (digits s)) s)

name_length_by : (label s k : List ℕ) → number_in label s ≡ k
    → name_length label s ≡ cond (is_numeral k
    && bytes_eq (take (length (name label k)) s) (name label k)) (length (name label k)) 0
name_length_by label s k e = ap (λ x. cond (is_numeral x
    && bytes_eq (take (length (name label x)) s) (name label x)) (length (name label x)) 0) e

number_in_opened : (label rest : List ℕ) → number_in label (opening label ++ rest) ≡ digits rest
number_in_opened label rest =
    ap (take_while is_ascii_digit) (drop_at (opening label) rest (length (opening label)) refl)

compared : (label rest : List ℕ)
    → bytes_eq (take (length (name label (digits rest))) (opening label ++ rest))
    (name label (digits rest)) ≡ begins_with (λ b. b == 62) (drop (length (digits rest)) rest)
compared label rest =
    let k = digits rest in
    let p = opening label ++ k in
    let cut = split is_ascii_digit rest in
    ap (λ x. bytes_eq (take (length (p ++ 62 ∷ [])) x) (p ++ 62 ∷ []))
    (ap (λ x. opening label ++ x) cut.whole ∙ sym (append_assoc (opening label) k cut.rest))
    ∙ front_eq 62 p cut.rest
    ∙ ap (begins_with (λ b. b == 62))
    (sym (ap (drop (length k)) cut.whole ∙ drop_at k cut.rest (length k) refl))

pub name_opened : (label rest : List ℕ) → name_length label (opening label ++ rest)
    ≡ cond (is_closed rest) (length (name label (digits rest))) 0
name_opened label rest =
    let k = digits rest in
    name_length_by label (opening label ++ rest) k (number_in_opened label rest)
    ∙ ap (λ x. cond (is_numeral k && x) (length (name label k)) 0) (compared label rest)

length_name : (label k : List ℕ) → length (name label k) ≡ length (opening label) + length k + 1
length_name label k =
    omega (arith, length-append (opening label ++ k) (62 ∷ []), length-append (opening label) k)

some_digits : (k : List ℕ) → is_numeral k ≡ true → 0 < length k
some_digits [] h = cc
some_digits (b ∷ k) h = omega arith

pub name_none : (label s rest : List ℕ) → s ≡ opening label ++ rest → numeral_length rest ≡ 0
    → name_length label s ≡ 0
name_none label s rest e h = ap (name_length label) e ∙ name_opened label rest
    ∙ by_bool (is_closed rest)
    (λ t. let some = some_digits (digits rest) (and_left (is_numeral (digits rest)) _ t) in
    let none : length (digits rest) ≡ 0 = rw t at h in absurd (omega arith))
    (λ t. rw t refl)

pub name_some : (label s rest : List ℕ) → s ≡ opening label ++ rest
    → (numeral_length rest ≡ 0 → ⊥)
    → name_length label s ≡ length s - length rest + numeral_length rest + 1
name_some label s rest e h = ap (name_length label) e ∙ name_opened label rest
    ∙ by_bool (is_closed rest)
    (λ t. let whole = ap length e ∙ length-append (opening label) rest in
    let all = length_name label (digits rest) in
    rw t (omega arith))
    (λ t. absurd (h (rw t refl)))

-- ---- a name at the start

-- the string starts with a name
pub record NameAt (label s : List ℕ) : Type 0 where
  pub number : List ℕ
  pub rest : List ℕ
  pub whole : s ≡ name label number ++ rest
  pub numeral : is_numeral number ≡ true

at_front : (s p : List ℕ) → bytes_eq (take (length p) s) p ≡ true → s ≡ p ++ drop (length p) s
at_front s p h = sym (take-append-drop (length p) s)
    ∙ ap (λ x. x ++ drop (length p) s) ((bytes_eq-Decides (take (length p) s) p).0 h)

abbrev starts_name : List ℕ → List ℕ → Bool
starts_name label s = is_numeral (number_in label s)
    && bytes_eq (take (length (name label (number_in label s))) s) (name label (number_in label s))

pub name_at : (label s : List ℕ) → (name_length label s ≡ 0 → ⊥) → NameAt label s
name_at label s h = by_bool (starts_name label s)
    (λ t. let k = number_in label s in
    record {
      number = k;
      rest = drop (length (name label k)) s;
      whole = at_front s (name label k) (and_right (is_numeral k) _ t);
      numeral = and_left (is_numeral k) _ t;
    })
    (λ t. absurd (h (rw t refl)))

pub regrouped : (label k rest : List ℕ)
    → name label k ++ rest ≡ opening label ++ (k ++ 62 ∷ rest)
regrouped label k rest = append_assoc (opening label ++ k) (62 ∷ []) rest
    ∙ append_assoc (opening label) k (62 ∷ rest)

pub name_unopened : (label s : List ℕ) → ((rest : List ℕ) → s ≡ opening label ++ rest → ⊥)
    → name_length label s ≡ 0
name_unopened label s h = by_bool (starts_name label s)
    (λ t. let k = number_in label s in
    let rest = drop (length (name label k)) s in
    absurd (h (k ++ 62 ∷ rest) (at_front s (name label k) (and_right (is_numeral k) _ t)
    ∙ regrouped label k rest)))
    (λ t. rw t refl)

pub digits_read : (k rest : List ℕ) → is_numeral k ≡ true → digits (k ++ 62 ∷ rest) ≡ k
digits_read k rest h = run_taken is_ascii_digit k (62 ∷ rest)
    (and_left (all_of is_ascii_digit k) _ (and_right (begins_with is_ascii_digit k) _ h)) refl

pub number_read : (label k rest : List ℕ) → is_numeral k ≡ true
    → number_in label (name label k ++ rest) ≡ k
number_read label k rest h = ap (number_in label) (regrouped label k rest)
    ∙ number_in_opened label (k ++ 62 ∷ rest) ∙ digits_read k rest h

-- a name is read as a name, whatever follows it
pub name_read : (label k rest : List ℕ) → is_numeral k ≡ true
    → name_length label (name label k ++ rest) ≡ length (name label k)
name_read label k rest h =
    let same = digits_read k rest h in
    let after = drop_at k (62 ∷ rest) (length k) refl in
    ap (name_length label) (regrouped label k rest) ∙ name_opened label (k ++ 62 ∷ rest)
    ∙ ap (λ x. cond (is_numeral x && begins_with (λ b. b == 62) (drop (length x) (k ++ 62 ∷ rest)))
    (length (name label x)) 0) same
    ∙ rw (h, after) refl
