-- The texts of numbers, booleans and null.
use Rattle.std.proofs.Common.{◌≡◌, ℕ, zero, suc, ◌+◌, ◌/◌, ◌%◌, ◌<◌, ◌==◌, true, false, Bool, ◌||◌}
use Rattle.std.proofs.Common.{not, List, [], ◌∷◌, ◌++◌, Some, None, length, ℤ, pos, negsuc}
use Rattle.std.proofs.Common.{refl, sym, ap, ◌∙◌, arith, cond, Option, drop, length-append}
use Rattle.std.proofs.lemmas.Bool.{and_from, and_parts, cond_both, cond-true, lt-ltb, not-true}
use Rattle.std.proofs.lemmas.Bool.{or_parts}
use Rattle.std.proofs.lemmas.List.{drop_at}
use Rattle.std.proofs.lemmas.Bool.Decides.{nat_tests}
use Rattle.std.specs.Fmt.{digit_glyph, digits, digits_onto}
use Rattle.std.specs.Prelude.{decimal, nat_lt, position}
use Rattle.std.specs.List.{list_all, position_or_len}
use Rattle.dap_tree.specs.Doc.{Doc, null, boolean, whole, text, list, object, id}
use Rattle.dap_tree.specs.Json.{text_of}
use Rattle.dap_transcript.specs.Canonical.{ends_value, opens_nest, opens_string}

-- A quote, a comma or a bracket. No number and no word contains one.
abbrev pub is_mark : ℕ → Bool
is_mark b = (b == 34) || (((b == 91) || (b == 123)) || ends_value (b ∷ []))

abbrev has_no_mark : List ℕ → Bool
has_no_mark w = list_all (λ b. not (is_mark b)) w

pub record IsWord (w : List ℕ) : Type 0 where
  pub bytes : list_all (λ b. not (is_mark b)) w ≡ true
  pub some : 0 < length w

-- ---- numbers

glyph_no_mark : (d : ℕ) → d < 10 → not (is_mark (digit_glyph false d)) ≡ true
glyph_no_mark d h = grind (arith, nat_tests)

digits_are_word : (k n : ℕ) (after : List ℕ) → has_no_mark after ≡ true
    → IsWord (digits_onto (suc k) 10 false n after)
digits_are_word zero n after h =
    let digit = digit_glyph false (n % 10) in
    let whole : IsWord (digit ∷ after) = record {
      bytes = and_from _ _ (glyph_no_mark (n % 10) (omega arith)) h;
      some = omega arith;
    } in
    cond_both (n / 10 == 0) (digit ∷ after) (digit ∷ after) IsWord (λ _. whole) (λ _. whole)
digits_are_word (suc k) n after h =
    let digit = digit_glyph false (n % 10) in
    let bytes : has_no_mark (digit ∷ after) ≡ true =
    and_from _ _ (glyph_no_mark (n % 10) (omega arith)) h in
    cond_both (n / 10 == 0) (digit ∷ after)
    (digits_onto (suc k) 10 false (n / 10) (digit ∷ after)) IsWord
    (λ _. record { bytes = bytes; some = omega arith })
    (λ _. digits_are_word k (n / 10) (digit ∷ after) bytes)

decimal_word : (n : ℕ) → IsWord (decimal n)
unfolding digits
decimal_word n = digits_are_word 63 n [] refl

pub number_word : (z : ℤ) → IsWord (text_of (whole z))
number_word (pos n) = decimal_word n
number_word (negsuc n) =
    let rest = decimal_word (suc n) in
    record { bytes = rest.bytes; some = omega arith }

-- ---- words

pub null_word : IsWord (text_of null)
null_word = record { bytes = refl; some = omega arith }

pub boolean_word : (b : Bool) → IsWord (text_of (boolean b))
boolean_word true = record { bytes = refl; some = omega arith }
boolean_word false = record { bytes = refl; some = omega arith }

-- ---- their ends

word_length : (w more : List ℕ) → has_no_mark w ≡ true → ends_value more ≡ true
    → position_or_len (λ b. ends_value (b ∷ [])) (w ++ more) ≡ length w
word_length [] [] h e = absurd (cc)
word_length [] (b ∷ more) h e =
    let left = position_or_len (λ c. ends_value (c ∷ [])) more in
    ap (λ t. cond (not t) (1 + left) 0) e
word_length (b ∷ w) more h e =
    let parts = and_parts (not (is_mark b)) (has_no_mark w) h in
    let mark = or_parts (b == 34) _ (not-true (is_mark b) parts.0) in
    let ends = (or_parts ((b == 91) || (b == 123)) (ends_value (b ∷ [])) mark.1).1 in
    let left = word_length w more parts.1 e in
    let n = position_or_len (λ c. ends_value (c ∷ [])) (w ++ more) in
    let same : 1 + n ≡ suc (length w) = omega (arith, left) in
    ap (λ t. cond (not t) (1 + n) 0) ends ∙ same

more_is_some : (more : List ℕ) → ends_value more ≡ true → 0 < length more
more_is_some [] e = absurd (cc)
more_is_some (b ∷ more) e = omega arith

word_position : (w more : List ℕ) → has_no_mark w ≡ true → ends_value more ≡ true
    → position (λ b. ends_value (b ∷ [])) (w ++ more) ≡ Some (length w)
word_position w more h e =
    let xs = w ++ more in
    let within : length w < length xs =
    omega (arith, length-append w more, more_is_some more e) in
    ap (λ n. cond (nat_lt n (length xs)) (Some n) None) (word_length w more h e)
    ∙ cond-true (nat_lt (length w) (length xs)) (Some (length w)) None
    (lt-ltb (length w) (length xs) within)

-- A word is found at the start of this t, before `more`.
pub record WordFound (t : List ℕ) (found : Option ℕ) (more : List ℕ) : Type 0 where
  pub end : ℕ
  pub is : found ≡ Some end
  pub some : 0 < end
  pub rest : drop end t ≡ more

found_word : (t : List ℕ) (found : Option ℕ) (w more : List ℕ)
    → found ≡ position (λ b. ends_value (b ∷ [])) t → IsWord w → t ≡ w ++ more
    → ends_value more ≡ true → WordFound t found more
found_word t found w more found_is word text_is e = record {
  end = length w;
  is = found_is ∙ ap (position (λ b. ends_value (b ∷ []))) text_is
      ∙ word_position w more word.bytes e;
  some = word.some;
  rest = ap (drop (length w)) text_is ∙ drop_at w more (length w) refl;
}

pub word_found : (t : List ℕ) (found : Option ℕ)
    → found ≡ position (λ b. ends_value (b ∷ [])) t → opens_string t ≡ false
    → opens_nest t ≡ false → (d : Doc) (more : List ℕ) → t ≡ text_of d ++ more
    → ends_value more ≡ true → WordFound t found more
word_found t found f string nest null more is e =
    found_word t found (text_of null) more f null_word is e
word_found t found f string nest (boolean b) more is e =
    found_word t found (text_of (boolean b)) more f (boolean_word b) is e
word_found t found f string nest (whole z) more is e =
    found_word t found (text_of (whole z)) more f (number_word z) is e
word_found t found f string nest (text s) more is e =
    let no : true ≡ false = sym (ap opens_string is) ∙ string in absurd (cc)
word_found t found f string nest (list ds) more is e =
    let no : true ≡ false = sym (ap opens_nest is) ∙ nest in absurd (cc)
word_found t found f string nest (object ms) more is e =
    let no : true ≡ false = sym (ap opens_nest is) ∙ nest in absurd (cc)
word_found t found f string nest (id s z) more is e =
    found_word t found (text_of (id s z)) more f (number_word z) is e

-- ---- how they start

pub word_no_string : (w more : List ℕ) → IsWord w → opens_string (w ++ more) ≡ false
word_no_string [] more word = let some : 0 < 0 = word.some in absurd (omega arith)
word_no_string (b ∷ w) more word =
    let parts = and_parts (not (is_mark b)) (has_no_mark w) word.bytes in
    (or_parts (b == 34) _ (not-true (is_mark b) parts.0)).0

pub word_no_nest : (w more : List ℕ) → IsWord w → opens_nest (w ++ more) ≡ false
word_no_nest [] more word = let some : 0 < 0 = word.some in absurd (omega arith)
word_no_nest (b ∷ w) more word =
    let parts = and_parts (not (is_mark b)) (has_no_mark w) word.bytes in
    let mark = or_parts (b == 34) _ (not-true (is_mark b) parts.0) in
    (or_parts ((b == 91) || (b == 123)) (ends_value (b ∷ [])) mark.1).0
