-- The text of a string determines the string, whatever follows it: a JSON parser reads the string.
use Rattle.std.proofs.Common.{◌≡◌, ℕ, ◌+◌, ◌*◌, ◌/◌, ◌%◌, ◌<◌, ◌≤◌, List, [], ◌∷◌, ◌++◌, true}
use Rattle.std.proofs.Common.{false, length, get_or, drop, Option, Some, None, IsUtf8}
use Rattle.std.proofs.Common.{encode_utf8_all, refl, sym, ap, ap₂, ◌∙◌, subst, inl, inr, arith}
use Rattle.std.proofs.Common.{append_assoc, append-nil, zero, suc}
use Rattle.std.proofs.lemmas.Bool.{cases_eq, cases_lt, cond_both, cond-false, ne_eqb}
use Rattle.std.proofs.lemmas.Bool.{agree_below_at, le-ltb, lt-ltb, and_parts, and_from}
use Rattle.std.proofs.lemmas.Bool.Decides.{nat_tests}
use Rattle.std.proofs.lemmas.List.{append_cancel_left}
use Rattle.std.proofs.lemmas.List.Concat.{flat_map-append}
use Rattle.std.proofs.lemmas.Str.{IsUtf8-encode, chars-append, chars-encodes}
use Rattle.std.proofs.lemmas.Str.{chars-IsAscii, digit_value-digit_char, encode_ascii, inside_one}
use Rattle.std.specs.Char.{digit_char, digit_value, encode_utf8, is_digit, IsScalar}
use Rattle.std.specs.Str.{chars}
use Rattle.std.proofs.Math.Utf8.{scalars}
use Rattle.std.specs.List.{flat_map}
use Rattle.json.specs.Print as json
use Rattle.json.specs.Print.{escape_byte}
use Rattle.json.specs.Text.{code_unit, content, is_high_surrogate}
use Rattle.json.specs.Text.{is_low_surrogate, plain, prepend, short_escape}
use Rattle.json.proofs.Printed.Strings.{escape_byte_plain}
use Rattle.json.proofs.Printed.Utf8.{IsUtf8-are_ascii, are_ascii}
use Rattle.dap_transcript.specs.Scalars.{char_text, escape, escaped, is_escaped, string_text}

-- A character of a string, as it is written.
abbrev written : ℕ → List ℕ
written c = escaped (json.escape (encode_utf8 c))

-- What is written is read as the character.
abbrev IsReadBack : ℕ → Type 0
IsReadBack c = (r : List ℕ) → content plain (written c ++ r)
    ≡ prepend (encode_utf8 c) (content plain r)

prepend-nil : (o : Option (List ℕ)) → prepend [] o ≡ o
prepend-nil None = refl
prepend-nil (Some s) = refl

prepend-append : (xs ys : List ℕ) (o : Option (List ℕ))
    → prepend xs (prepend ys o) ≡ prepend (xs ++ ys) o
prepend-append xs ys None = refl
prepend-append xs ys (Some s) = ap Some (sym (append_assoc xs ys s))

-- ---- short escapes

backspace_back : IsReadBack 8
unfolding content short_escape escape_byte chars encode_utf8
backspace_back r = refl

tab_back : IsReadBack 9
unfolding content short_escape escape_byte chars encode_utf8
tab_back r = refl

line_feed_back : IsReadBack 10
unfolding content short_escape escape_byte chars encode_utf8
line_feed_back r = refl

form_feed_back : IsReadBack 12
unfolding content short_escape escape_byte chars encode_utf8
form_feed_back r = refl

return_back : IsReadBack 13
unfolding content short_escape escape_byte chars encode_utf8
return_back r = refl

quote_back : IsReadBack 34
unfolding content short_escape escape_byte chars encode_utf8
quote_back r = refl

backslash_back : IsReadBack 92
unfolding content short_escape escape_byte chars encode_utf8
backslash_back r = refl

delete_back : IsReadBack 127
unfolding content code_unit escape_byte chars encode_utf8
delete_back r = refl

-- ---- bytes below U+007F are not escaped again

abbrev pub AreLow : List ℕ → Type 0
AreLow [] = Unit {0}
AreLow (b ∷ bs) = (b < 127) × AreLow bs

low_at : (bs : List ℕ) → AreLow bs → (i : ℕ) → get_or bs i 0 < 128
low_at [] h i = omega arith
low_at (b ∷ bs) h zero = omega (arith, h.0)
low_at (b ∷ bs) h (suc i) = low_at bs h.1 i

low_char : (b : ℕ) → b < 127 → is_escaped b ≡ false
low_char b h = grind (arith, nat_tests)

low_chars : (bs : List ℕ) → AreLow bs → flat_map char_text bs ≡ bs
low_chars [] h = refl
low_chars (b ∷ bs) h =
    ap₂ (λ (xs ys : List ℕ). xs ++ ys)
    (cond-false (is_escaped b) (escape b) (encode_utf8 b) (low_char b h.0)
    ∙ encode_ascii b (omega (arith, h.0))) (low_chars bs h.1)

pub low_escaped : (bs : List ℕ) → AreLow bs → escaped bs ≡ bs
low_escaped bs h = ap (flat_map char_text) (chars-IsAscii bs (low_at bs h)) ∙ low_chars bs h

-- ---- an escape of four digits

digit_low : (d : ℕ) → d < 16 → digit_char d < 127
digit_low d h = grind (arith, nat_tests)

digit_is : (d : ℕ) → d < 16 → is_digit (digit_char d) 16 ≡ true
digit_is d h = lt-ltb (digit_value (digit_char d)) 16
    (omega (arith, digit_value-digit_char d (omega (arith, h)), h))

four_digits : (a b c d : ℕ) → a < 16 → b < 16 → c < 16 → d < 16
    → code_unit (digit_char a) (digit_char b) (digit_char c) (digit_char d)
    ≡ Some (a * 4096 + b * 256 + c * 16 + d)
unfolding code_unit
four_digits a b c d ha hb hc hd =
    let va = digit_value-digit_char a (omega (arith, ha)) in
    let vb = digit_value-digit_char b (omega (arith, hb)) in
    let vc = digit_value-digit_char c (omega (arith, hc)) in
    let vd = digit_value-digit_char d (omega (arith, hd)) in
    rw (digit_is a ha, digit_is b hb, digit_is c hc, digit_is d hd, va, vb, vc, vd) refl

unit_is : (c : ℕ) → c < 65536
    → (c / 4096 % 16) * 4096 + (c / 256 % 16) * 256 + (c / 16 % 16) * 16 + c % 16 ≡ c
unit_is c h = omega arith

escape_back : (c : ℕ) (r : List ℕ) → c < 65536 → is_high_surrogate c ≡ false
    → is_low_surrogate c ≡ false → content plain (escape c ++ r)
    ≡ prepend (encode_utf8 c) (content plain r)
unfolding content
escape_back c r small high low =
    let read = four_digits (c / 4096 % 16) (c / 256 % 16) (c / 16 % 16) (c % 16) (omega arith)
    (omega arith) (omega arith) (omega arith) ∙ ap Some (unit_is c small) in
    rw (read, high, low) refl

-- ---- a character below U+0080

escape_of : (c : ℕ) → c < 128 → json.escape (encode_utf8 c) ≡ escape_byte c
escape_of c small = ap json.escape (encode_ascii c small) ∙ append-nil (escape_byte c)

-- a control character with no short escape
abbrev IsLong : ℕ → Type 0
IsLong c = (c ≡ 8 → ⊥) × (c ≡ 9 → ⊥) × (c ≡ 10 → ⊥) × (c ≡ 12 → ⊥) × (c ≡ 13 → ⊥)

escape_control : (c : ℕ) → c < 32 → IsLong c → escape_byte c ≡ escape c
unfolding escape_byte
escape_control c small other =
    let first : 0 ≡ c / 4096 % 16 = omega arith in
    let second : 0 ≡ c / 256 % 16 = omega arith in
    let third : c / 16 ≡ c / 16 % 16 = omega arith in
    rw (
      ne_eqb c 34 (λ e. omega arith),
      ne_eqb c 92 (λ e. omega arith),
      ne_eqb c 8 other.0,
      ne_eqb c 12 other.3,
      ne_eqb c 10 other.2,
      ne_eqb c 13 other.4,
      ne_eqb c 9 other.1,
      lt-ltb c 32 small,
    )
    (λ i. 92 ∷ 117 ∷ digit_char (first i) ∷ digit_char (second i) ∷ digit_char (third i)
    ∷ digit_char (c % 16) ∷ [])

low_escape : (c : ℕ) → AreLow (escape c)
low_escape c = (
  omega arith,
  (
    omega arith,
    (
      digit_low (c / 4096 % 16) (omega arith),
      (
        digit_low (c / 256 % 16) (omega arith),
        (digit_low (c / 16 % 16) (omega arith), (digit_low (c % 16) (omega arith), tt)),
      ),
    ),
  ),
)

control_back : (c : ℕ) → c < 32 → IsLong c → IsReadBack c
control_back c small other r =
    let is = escape_of c (omega (arith, small)) ∙ escape_control c small other in
    ap (λ bs. content plain (bs ++ r)) (ap escaped is ∙ low_escaped (escape c) (low_escape c))
    ∙ escape_back c r (omega (arith, small)) (grind (arith, nat_tests)) (grind (arith, nat_tests))

plain_back : (c : ℕ) → (c ≡ 34 → ⊥) → (c ≡ 92 → ⊥) → 32 ≤ c → c < 127 → IsReadBack c
unfolding content
plain_back c quote backslash low high r =
    let is = escape_of c (omega (arith, high)) ∙ escape_byte_plain c quote backslash low in
    let whole = ap escaped is ∙ low_escaped (c ∷ []) (high, tt) in
    rw (
      whole,
      encode_ascii c (omega (arith, high)),
      ne_eqb c 34 quote,
      ne_eqb c 92 backslash,
      le-ltb c 32 low,
    ) refl

-- ---- a character from U+0080

abbrev AreHigh : List ℕ → Type 0
AreHigh bs = (k : ℕ) → k < length bs → 128 ≤ get_or bs k 0

high_first : (b : ℕ) (bs : List ℕ) → AreHigh (b ∷ bs) → 128 ≤ b
high_first b bs h = h 0 (omega arith)

high_rest : (b : ℕ) (bs : List ℕ) → AreHigh (b ∷ bs) → AreHigh bs
high_rest b bs h k within = h (suc k) (omega arith)

high_bytes : (c : ℕ) → 128 ≤ c → AreHigh (encode_utf8 c)
high_bytes c big k within = elim (cases_lt (get_or (encode_utf8 c) k 0) 128) [
  | inl low ↦
      absurd (omega (arith, inside_one c [] (encode_utf8 c) k (sym (append-nil _)) within low))
  | inr high ↦ high
]

high_escape : (bs : List ℕ) → AreHigh bs → json.escape bs ≡ bs
high_escape [] h = refl
high_escape (b ∷ bs) h =
    let high = high_first b bs h in
    ap₂ (λ (xs ys : List ℕ). xs ++ ys)
    (escape_byte_plain b (λ e. omega arith) (λ e. omega arith) (omega arith))
    (high_escape bs (high_rest b bs h))

high_back : (bs r : List ℕ) → AreHigh bs → content plain (bs ++ r) ≡ prepend bs (content plain r)
unfolding content
high_back [] r h = sym (prepend-nil (content plain r))
high_back (b ∷ bs) r h =
    let high = high_first b bs h in
    rw (
      ne_eqb b 34 (λ e. omega arith),
      ne_eqb b 92 (λ e. omega arith),
      le-ltb b 32 (omega arith),
      high_back bs r (high_rest b bs h),
    )
    (prepend-append (b ∷ []) bs (content plain r))

escaped_small : (c : ℕ) → is_escaped c ≡ true → c < 65536
escaped_small c h = grind (arith, nat_tests)

escaped_high : (c : ℕ) → is_escaped c ≡ true → is_high_surrogate c ≡ false
escaped_high c h = grind (arith, nat_tests)

escaped_low : (c : ℕ) → is_escaped c ≡ true → is_low_surrogate c ≡ false
escaped_low c h = grind (arith, nat_tests)

one_char : (c : ℕ) → IsScalar c → chars (encode_utf8 c) ≡ c ∷ []
one_char c is =
    ap chars (sym (append-nil (encode_utf8 c))) ∙ chars-encodes (c ∷ []) (and_from _ _ is refl)

char_text_back : (c : ℕ) (r : List ℕ) → 128 ≤ c → content plain (char_text c ++ r)
    ≡ prepend (encode_utf8 c) (content plain r)
char_text_back c r big =
    cond_both (is_escaped c) (escape c) (encode_utf8 c)
    (λ bs. content plain (bs ++ r) ≡ prepend (encode_utf8 c) (content plain r))
    (λ is. escape_back c r (escaped_small c is) (escaped_high c is) (escaped_low c is))
    (λ _. high_back (encode_utf8 c) r (high_bytes c big))

big_back : (c : ℕ) → 128 ≤ c → IsScalar c → IsReadBack c
big_back c big is r =
    let whole : written c ≡ char_text c =
    ap escaped (high_escape (encode_utf8 c) (high_bytes c big))
    ∙ ap (flat_map char_text) (one_char c is) ∙ append-nil (char_text c) in
    ap (λ bs. content plain (bs ++ r)) whole ∙ char_text_back c r big

-- ---- any character

unless : (c n : ℕ) → IsReadBack n → ((c ≡ n → ⊥) → IsReadBack c) → IsReadBack c
unless c n at other = elim (cases_eq c n) [
  | inl same ↦ subst IsReadBack (sym same) at
  | inr differs ↦ other differs
]

below_space : (c : ℕ) → c < 32 → IsReadBack c
below_space c small =
    unless c 8 backspace_back
    (λ a. unless c 9 tab_back
    (λ b. unless c 10 line_feed_back
    (λ d. unless c 12 form_feed_back
    (λ e. unless c 13 return_back (λ f. control_back c small (a, b, d, e, f))))))

from_space : (c : ℕ) → 32 ≤ c → c < 128 → IsReadBack c
from_space c low high =
    unless c 34 quote_back
    (λ quote. unless c 92 backslash_back
    (λ backslash. unless c 127 delete_back
    (λ delete. plain_back c quote backslash low (omega arith))))

char_back : (c : ℕ) → IsScalar c → IsReadBack c
char_back c is = elim (cases_lt c 128) [
  | inl small ↦ elim (cases_lt c 32) [
    | inl control ↦ below_space c control
    | inr space ↦ from_space c space small
  ]
  | inr big ↦ big_back c big is
]

ascii_below : (c : ℕ) → c < 128 → are_ascii (escape_byte c) ≡ true
unfolding escape_byte
ascii_below c small =
    agree_below_at (λ b. are_ascii (escape_byte b)) (λ b. true) 128 c refl small

escape_utf8 : (c : ℕ) → IsScalar c → IsUtf8 (json.escape (encode_utf8 c))
escape_utf8 c is = elim (cases_lt c 128) [
  | inl small ↦
      subst IsUtf8 (sym (escape_of c small))
      (IsUtf8-are_ascii (escape_byte c) (ascii_below c small))
  | inr big ↦
      subst IsUtf8 (sym (high_escape (encode_utf8 c) (high_bytes c big))) (IsUtf8-encode c is)
]

escaped-append : (xs ys : List ℕ) → IsUtf8 xs → escaped (xs ++ ys) ≡ escaped xs ++ escaped ys
escaped-append xs ys utf8 =
    ap (flat_map char_text) (chars-append xs ys utf8)
    ∙ flat_map-append char_text (chars xs) (chars ys)

-- ---- strings

-- What follows the quote at the start of a string.
unfoldable pub rest_of : List ℕ → List ℕ
rest_of s = escaped (json.escape s ++ 34 ∷ [])

rest_step : (c : ℕ) (cs : List ℕ) → IsScalar c
    → rest_of (encode_utf8_all (c ∷ cs)) ≡ written c ++ rest_of (encode_utf8_all cs)
unfolding rest_of
rest_step c cs is =
    let first = json.escape (encode_utf8 c) in
    let later = json.escape (encode_utf8_all cs) in
    ap (λ e. escaped (e ++ 34 ∷ []))
    (flat_map-append escape_byte (encode_utf8 c) (encode_utf8_all cs))
    ∙ ap escaped (append_assoc first later (34 ∷ []))
    ∙ escaped-append first (later ++ 34 ∷ []) (escape_utf8 c is)

end_back : (r : List ℕ) → content plain (rest_of [] ++ r) ≡ Some []
unfolding content rest_of chars encode_utf8
end_back r = refl

rest_back : (cs r : List ℕ) → scalars cs ≡ true
    → content plain (rest_of (encode_utf8_all cs) ++ r) ≡ Some (encode_utf8_all cs)
rest_back [] r h = end_back r
rest_back (c ∷ cs) r h =
    let parts = and_parts _ _ h in
    let later = rest_of (encode_utf8_all cs) in
    ap (λ e. content plain (e ++ r)) (rest_step c cs parts.0)
    ∙ ap (content plain) (append_assoc (written c) later r) ∙ char_back c parts.0 (later ++ r)
    ∙ ap (prepend (encode_utf8 c)) (rest_back cs r parts.1)

string_back : (s r : List ℕ) → IsUtf8 s → content plain (rest_of s ++ r) ≡ Some s
string_back s r utf8 =
    subst (λ t. content plain (rest_of t ++ r) ≡ Some t) utf8.1.1 (rest_back utf8.0 r utf8.1.0)

-- A string is written as `"`, and what is read as the string.
pub quoted_text : (s : List ℕ) → string_text s ≡ 34 ∷ rest_of s
unfolding rest_of
quoted_text s =
    escaped-append (34 ∷ []) (json.escape s ++ 34 ∷ []) (IsUtf8-are_ascii (34 ∷ []) refl)
    ∙ ap (λ q. q ++ escaped (json.escape s ++ 34 ∷ [])) (low_escaped (34 ∷ []) (omega arith, tt))

-- The text of a string determines the string and what follows it.
pub same_string : (s t x y : List ℕ) → IsUtf8 s → IsUtf8 t
    → string_text s ++ x ≡ string_text t ++ y → (s ≡ t) × (x ≡ y)
same_string s t x y utf8 utf8' h =
    let whole = ap (λ q. q ++ x) (sym (quoted_text s)) ∙ h ∙ ap (λ q. q ++ y) (quoted_text t) in
    let read : Some s ≡ Some t =
    sym (string_back s x utf8) ∙ ap (λ l. content plain (drop 1 l)) whole
    ∙ string_back t y utf8' in
    let same : s ≡ t = cc in
    (same, append_cancel_left (string_text t) x y (ap (λ u. string_text u ++ x) (sym same) ∙ h))
