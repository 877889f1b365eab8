-- What follows a string.
use Rattle.std.proofs.Common.{◌≡◌, ℕ, ◌+◌, ◌/◌, ◌%◌, ◌<◌, ◌≤◌, ◌⊎◌, inl, inr, true, false, cond}
use Rattle.std.proofs.Common.{List, [], ◌∷◌, ◌++◌, Some, length, drop, get_or, refl, ap}
use Rattle.std.proofs.Common.{◌∙◌, arith, append_assoc}
use Rattle.std.proofs.lemmas.Bool.{cases_eq, cases_lt, cond_both, lt-ltb, ne_eqb}
use Rattle.std.proofs.lemmas.Bool.Decides.{nat_tests}
use Rattle.std.proofs.lemmas.List.{drop_more, drop-drop}
use Rattle.std.specs.Prelude.{nat_lt}
use Rattle.std.specs.{Char.digit_char}
use Rattle.json.specs.Print.{escape, escape_byte, escape_letter, quoted}
use Rattle.json.proofs.Printed.Strings.{escape_byte_plain}
use Rattle.dap_transcript.specs.Canonical.{string_rest}

-- ---- one byte of a text

pub plain_rest : (x : ℕ) (r : List ℕ) → (x ≡ 34 → ⊥) → (x ≡ 92 → ⊥)
    → string_rest false (x ∷ r) ≡ string_rest false r
plain_rest x r quote backslash = rw (ne_eqb x 34 quote, ne_eqb x 92 backslash) refl

escaped_rest : (r : List ℕ) → string_rest true r ≡ string_rest false (drop 1 r)
escaped_rest [] = refl
escaped_rest (b ∷ r) = refl

-- ---- the escape of a byte

hex_rest : (d : ℕ) (r : List ℕ) → d < 16
    → string_rest false (digit_char d ∷ r) ≡ string_rest false r
hex_rest d r small =
    plain_rest (digit_char d) r (λ e. grind (arith, nat_tests)) (λ e. grind (arith, nat_tests))

byte_rest : (x : ℕ) (r : List ℕ) → string_rest false (escape_byte x ++ r) ≡ string_rest false r
unfolding escape_byte
byte_rest x r = go (cases_eq x 34) (cases_eq x 92) (cases_lt x 32)
  where
    control : x < 32 → string_rest false (escape_byte x ++ r) ≡ string_rest false r
    control small =
        let digits = 117 ∷ 48 ∷ 48 ∷ digit_char (x / 16) ∷ digit_char (x % 16) ∷ [] in
        cond_both (nat_lt 0 (escape_letter x)) (92 ∷ escape_letter x ∷ [])
        (cond (nat_lt x 32) (92 ∷ digits) (x ∷ []))
        (λ (bs : List ℕ). string_rest false (bs ++ r) ≡ string_rest false r)
        (λ _. refl)
        (λ _. ap (λ t. string_rest false (cond t (92 ∷ digits) (x ∷ []) ++ r)) (lt-ltb x 32 small)
        ∙ hex_rest (x / 16) (digit_char (x % 16) ∷ r) (omega arith)
        ∙ hex_rest (x % 16) r (omega arith))

    go : (x ≡ 34) ⊎ (x ≡ 34 → ⊥) → (x ≡ 92) ⊎ (x ≡ 92 → ⊥) → (x < 32) ⊎ (32 ≤ x)
        → string_rest false (escape_byte x ++ r) ≡ string_rest false r
    go (inl e) b c = ap (λ (y : ℕ). string_rest false (escape_byte y ++ r)) e
    go (inr q) (inl e) c = ap (λ (y : ℕ). string_rest false (escape_byte y ++ r)) e
    go (inr q) (inr b) (inl small) = control small
    go (inr q) (inr b) (inr large) =
        ap (λ (bs : List ℕ). string_rest false (bs ++ r)) (escape_byte_plain x q b large)
        ∙ plain_rest x r q b

-- ---- a string

escape_rest : (s more : List ℕ) → string_rest false (escape s ++ 34 ∷ more) ≡ Some more
escape_rest [] more = refl
escape_rest (x ∷ s) more =
    ap (string_rest false) (append_assoc (escape_byte x) (escape s) (34 ∷ more))
    ∙ byte_rest x (escape s ++ 34 ∷ more) ∙ escape_rest s more

pub quoted_rest : (s more : List ℕ) → string_rest false (drop 1 (quoted s ++ more)) ≡ Some more
quoted_rest s more =
    ap (string_rest false) (append_assoc (escape s) (34 ∷ []) more) ∙ escape_rest s more

-- ---- the loop over a text

pub rest_at_backslash : (text : List ℕ) (at : ℕ) → at < length text → get_or text at 0 ≡ 92
    → string_rest false (drop at text) ≡ string_rest false (drop (at + 2) text)
rest_at_backslash text at inside backslash =
    let two : at + 1 + 1 ≡ at + 2 = omega arith in
    ap (string_rest false) (drop_more text at 0 inside)
    ∙ ap (λ b. string_rest false (b ∷ drop (at + 1) text)) backslash
    ∙ escaped_rest (drop (at + 1) text)
    ∙ ap (string_rest false) (drop-drop 1 (at + 1) text ∙ ap (λ n. drop n text) two)
