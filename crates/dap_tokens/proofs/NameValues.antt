-- The value of a name is its number.
use Rattle.std.proofs.Common.{◌≡◌, ℕ, ◌==◌, Bool, true, false, cond, not, List, [], ◌∷◌, ◌++◌}
use Rattle.std.proofs.Common.{length, take, refl, sym, ap, ◌∙◌, arith, append-nil}
use Rattle.std.specs.Char.{is_ascii_digit}
use Rattle.std.proofs.lemmas.Bool.{eq-eqb, lt-ltb}
use Rattle.std.proofs.lemmas.List.{take_at}
use Rattle.dap_words.specs.Runs.{all_of}
use Rattle.dap_tokens.specs.Tokens.{is_numeral, name, name_length, number_in}
use Rattle.dap_tokens.specs.Values.{value, value_of_form, is_name, is_nothing}
use Rattle.dap_tokens.specs.declared.form.Form.{Form}
use Rattle.dap_tokens.proofs.Booleans.{and_right, and_both, not_true}
use Rattle.dap_tokens.proofs.Names.{name_read, number_read}

-- ---- the value of a name

name_whole : (label k : List ℕ) → is_numeral k ≡ true
    → name_length label (name label k) ≡ length (name label k)
name_whole label k h = ap (name_length label) (sym (append-nil (name label k)))
    ∙ name_read label k [] h

is_name_true : (label k : List ℕ) → is_numeral k ≡ true → is_name label (name label k) ≡ true
is_name_true label k h =
    let same = name_whole label k h in
    and_both _ _ (lt-ltb 0 (name_length label (name label k)) (omega arith))
    (eq-eqb (name_length label (name label k)) (length (name label k)) same)

cond_true : (b : Bool) (x y : List ℕ) → b ≡ true → cond b x y ≡ x
cond_true b x y h = rw h refl

pub value_of_name : (label : List ℕ) (form : Form) (k : List ℕ) → is_numeral k ≡ true
    → value label form (name label k) ≡ k
value_of_name label form k h =
    cond_true (is_name label (name label k)) (number_in label (name label k))
    (value_of_form form (name label k)) (is_name_true label k h)
    ∙ ap (number_in label) (sym (append-nil (name label k))) ∙ number_read label k [] h

pub numeral_is_id : (k : List ℕ) → is_numeral k ≡ true → is_nothing k ≡ false
numeral_is_id [] h = absurd cc
numeral_is_id (c ∷ k) h =
    let first = not_true (c == 48) (and_right (all_of is_ascii_digit (c ∷ k)) (not (c == 48))
    (and_right (is_ascii_digit c) _ h)) in
    rw first refl

-- ---- prefixes

pub same_prefix : (a b c d : List ℕ) → a ++ b ≡ c ++ d → length a ≡ length c → a ≡ c
same_prefix a b c d e h = sym (take_at a b (length a) refl) ∙ ap (take (length a)) e
    ∙ take_at c d (length a) (sym h)
