-- A string token in UTF-8 text represents UTF-8: the text is split only at ASCII bytes, and each
-- escape represents a character.
use Rattle.std.proofs.Common.{◌≡◌, ℕ, ◌+◌, ◌*◌, ◌<◌, List, [], ◌∷◌, ◌++◌, true, false, Bool, cond}
use Rattle.std.proofs.Common.{◌&&◌, ◌==◌, nat_lt, length, get_or, drop, Option, Some, None}
use Rattle.std.proofs.Common.{option_and_then, IsUtf8, refl, sym, ap, ◌∙◌, subst, arith}
use Rattle.std.proofs.Common.{append_assoc, append-nil, length-append}
use Rattle.std.proofs.lemmas.Bool.{and_parts, cond_both, eqb-true, ltb-true}
use Rattle.std.proofs.lemmas.Bool.Decides.{nat_tests}
use Rattle.std.proofs.lemmas.List.{get_or_at, take_at, drop_at, drop-drop}
use Rattle.std.proofs.lemmas.Str.{IsUtf8-append, IsUtf8-encode, encode_ascii, IsUtf8-take}
use Rattle.std.proofs.lemmas.Str.{IsUtf8-drop, IsCharBoundary-before_ascii}
use Rattle.std.proofs.lemmas.Str.{IsCharBoundary-after_ascii}
use Rattle.std.proofs.Math.Utf8.{low_scalar}
use Rattle.std.specs.Char.{digit_value, is_digit, encode_utf8, IsScalar}
use Rattle.std.specs.Option.{IfSome}
use Rattle.json.specs.Ascii as ascii
use Rattle.json.specs.Text.{code_unit, short_escape, is_high_surrogate, is_low_surrogate}
use Rattle.json.specs.Text.{surrogate_pair, Within, plain, after_backslash, after_u, after_high}
use Rattle.json.specs.Text.{prepend, content}

-- ---- UTF-8 next to an ASCII byte

module _ (front rest : List ℕ) (x : ℕ) (low : x < 128) (utf8 : IsUtf8 (front ++ x ∷ rest)) where
  there : get_or (front ++ x ∷ rest) (length front) 0 ≡ x
  there = get_or_at front x rest 0 (length front) refl

  before_ascii : IsUtf8 front
  before_ascii =
      subst IsUtf8 (take_at front (x ∷ rest) (length front) refl)
      (IsUtf8-take (front ++ x ∷ rest) (length front) utf8
      (IsCharBoundary-before_ascii (front ++ x ∷ rest) (length front)
      (omega (arith, length-append front (x ∷ rest))) (omega (arith, there))))

  pub after_ascii : IsUtf8 rest
  after_ascii =
      subst IsUtf8 (sym (drop-drop 1 (length front) (front ++ x ∷ rest))
      ∙ ap (drop 1) (drop_at front (x ∷ rest) (length front) refl))
      (IsUtf8-drop (front ++ x ∷ rest) (length front + 1) utf8
      (IsCharBoundary-after_ascii (front ++ x ∷ rest) (length front) utf8
      (omega (arith, length-append front (x ∷ rest))) (omega (arith, there))))

-- ---- the character that an escape represents

ascii_scalar : (x : ℕ) → x < 128 → IsScalar x
ascii_scalar x low = low_scalar x (omega arith)

-- the character that a backslash and one letter represent
short_ascii : (x : ℕ) → IfSome (short_escape x) (λ c. (x < 128) × (c < 128))
unfolding short_escape
short_ascii x = grind (arith, nat_tests)

hex_ascii : (x : ℕ) → is_digit x 16 ≡ true → x < 128
hex_ascii x h = grind (arith, nat_tests)

-- the digits are ASCII, and write a number of 16 bits
abbrev IsUnit : ℕ → ℕ → ℕ → ℕ → ℕ → Type 0
IsUnit a b c d unit = (a < 128) × (b < 128) × (c < 128) × (d < 128) × (unit < 65536)

unit_digits : (a b c d : ℕ) → IfSome (code_unit a b c d) (IsUnit a b c d)
unfolding code_unit
unit_digits a b c d =
    cond_both (is_digit a 16 && is_digit b 16 && is_digit c 16 && is_digit d 16)
    (Some (digit_value a * 4096 + digit_value b * 256 + digit_value c * 16 + digit_value d))
    None (λ o. IfSome o (IsUnit a b c d))
    (λ digits.
    let abc = and_parts (is_digit a 16 && is_digit b 16 && is_digit c 16) (is_digit d 16) digits in
    let ab = and_parts (is_digit a 16 && is_digit b 16) (is_digit c 16) abc.0 in
    let p = and_parts (is_digit a 16) (is_digit b 16) ab.0 in
    let below : (x : ℕ) → is_digit x 16 ≡ true
    → digit_value x < 16 = λ x h. ltb-true (digit_value x) 16 h in (
      hex_ascii a p.0,
      hex_ascii b p.1,
      hex_ascii c ab.1,
      hex_ascii d abc.1,
      omega (arith, below a p.0, below b p.1, below c ab.1, below d abc.1),
    ))
    (λ _. tt)

after_digits : (a b c d unit : ℕ) (rest : List ℕ) → IsUnit a b c d unit
    → IsUtf8 (a ∷ b ∷ c ∷ d ∷ rest) → IsUtf8 rest
after_digits a b c d unit rest is utf8 =
    after_ascii [] rest d is.3
    (after_ascii [] (d ∷ rest) c is.2
    (after_ascii [] (c ∷ d ∷ rest) b is.1 (after_ascii [] (b ∷ c ∷ d ∷ rest) a is.0 utf8)))

-- a unit that is not a surrogate is a character, and so is a pair of surrogates
unit_scalar : (unit : ℕ) → unit < 65536 → is_high_surrogate unit ≡ false
    → is_low_surrogate unit ≡ false → IsScalar unit
unit_scalar unit small high low = grind (arith, nat_tests)

pair_scalar : (high low : ℕ) → is_high_surrogate high ≡ true → is_low_surrogate low ≡ true
    → IsScalar (surrogate_pair high low)
pair_scalar high low h l = grind (arith, nat_tests)

-- ---- the content of a string

-- Where the text may be split within a string: among plain bytes even inside a character, otherwise
-- only between characters.
abbrev IsCut : Within → List ℕ → List ℕ → Type 0
IsCut plain front rest = IsUtf8 (front ++ rest)
IsCut after_backslash front rest = IsUtf8 front × IsUtf8 rest
IsCut after_u front rest = IsUtf8 front × IsUtf8 rest
IsCut (after_high high) front rest = IsUtf8 front × IsUtf8 rest × (is_high_surrogate high ≡ true)

-- the bytes that are read complete the bytes before them
abbrev Completes : List ℕ → Option (List ℕ) → Type 0
Completes front read = IfSome read (λ s. IsUtf8 (front ++ s))

completes-prepend : (front bytes : List ℕ) (read : Option (List ℕ))
    → Completes (front ++ bytes) read → Completes front (prepend bytes read)
completes-prepend front bytes None h = tt
completes-prepend front bytes (Some s) h = subst IsUtf8 (append_assoc front bytes s) h

completes-and_then : (front : List ℕ) (P : ℕ → Type 0) (f : ℕ → Option (List ℕ)) (o : Option ℕ)
    → IfSome o P → ((c : ℕ) → P c → Completes front (f c)) → Completes front (option_and_then f o)
completes-and_then front P f None h k = tt
completes-and_then front P f (Some c) h k = k c h

completes-cond : (front : List ℕ) (b : Bool) (x y : Option (List ℕ))
    → (b ≡ true → Completes front x) → (b ≡ false → Completes front y)
    → Completes front (cond b x y)
completes-cond front b x y = cond_both b x y (Completes front)

-- the next character is appended to the bytes before it
put_behind : (front rest : List ℕ) (c : ℕ) → IsUtf8 front → IsScalar c → IsUtf8 rest
    → IsUtf8 ((front ++ encode_utf8 c) ++ rest)
put_behind front rest c before is after =
    IsUtf8-append (front ++ encode_utf8 c) rest
    (IsUtf8-append front (encode_utf8 c) before (IsUtf8-encode c is)) after

put_ascii : (front rest : List ℕ) (c : ℕ) → IsUtf8 front → c < 128 → IsUtf8 rest
    → IsUtf8 ((front ++ c ∷ []) ++ rest)
put_ascii front rest c before low after =
    subst (λ bytes. IsUtf8 ((front ++ bytes) ++ rest)) (encode_ascii c low)
    (put_behind front rest c before (ascii_scalar c low) after)

completes-content : (w : Within) (front rest : List ℕ) → IsCut w front rest
    → Completes front (content w rest)
unfolding content
completes-content plain front [] u = tt
completes-content plain front (x ∷ xs) u =
    completes-cond front (x == ascii.quote) (Some []) _
    (λ is. subst IsUtf8 (sym (append-nil front))
    (before_ascii front xs x (omega (arith, eqb-true x ascii.quote is)) u))
    (λ _. completes-cond front (x == ascii.backslash) (content after_backslash xs) _
    (λ is. let low : x
    < 128 = omega (arith, eqb-true x ascii.backslash is) in completes-content after_backslash
    front xs (before_ascii front xs x low u, after_ascii front xs x low u))
    (λ _. completes-cond front (nat_lt x ascii.space) None _ (λ _. tt)
    (λ _. completes-prepend front (x ∷ []) (content plain xs)
    (completes-content plain (front ++ x ∷ []) xs
    (subst IsUtf8 (sym (append_assoc front (x ∷ []) xs)) u)))))
completes-content after_backslash front [] u = tt
completes-content after_backslash front (x ∷ xs) u =
    completes-cond front (x == ascii.lower_u) (content after_u xs) _
    (λ is. completes-content after_u front xs
    (u.0, after_ascii [] xs x (omega (arith, eqb-true x ascii.lower_u is)) u.1))
    (λ _. completes-and_then front (λ c. (x < 128) × (c < 128)) _ (short_escape x) (short_ascii x)
    (λ c low. completes-prepend front (c ∷ []) (content plain xs)
    (completes-content plain (front ++ c ∷ []) xs
    (put_ascii front xs c u.0 low.1 (after_ascii [] xs x low.0 u.1)))))
completes-content after_u front [] u = tt
completes-content after_u front (a ∷ []) u = tt
completes-content after_u front (a ∷ b ∷ []) u = tt
completes-content after_u front (a ∷ b ∷ c ∷ []) u = tt
completes-content after_u front (a ∷ b ∷ c ∷ d ∷ xs) u =
    completes-and_then front (IsUnit a b c d) _ (code_unit a b c d) (unit_digits a b c d)
    (λ unit is.
    let rest = after_digits a b c d unit xs is u.1 in
    completes-cond front (is_high_surrogate unit) (content (after_high unit) xs) _
    (λ high. completes-content (after_high unit) front xs (u.0, rest, high))
    (λ high. completes-cond front (is_low_surrogate unit) None _ (λ _. tt)
    (λ low. completes-prepend front (encode_utf8 unit) (content plain xs)
    (completes-content plain (front ++ encode_utf8 unit) xs
    (put_behind front xs unit u.0 (unit_scalar unit is.4 high low) rest)))))
completes-content (after_high high) front [] u = tt
completes-content (after_high high) front (x ∷ []) u = tt
completes-content (after_high high) front (x ∷ y ∷ []) u = tt
completes-content (after_high high) front (x ∷ y ∷ a ∷ []) u = tt
completes-content (after_high high) front (x ∷ y ∷ a ∷ b ∷ []) u = tt
completes-content (after_high high) front (x ∷ y ∷ a ∷ b ∷ c ∷ []) u = tt
completes-content (after_high high) front (x ∷ y ∷ a ∷ b ∷ c ∷ d ∷ xs) u =
    completes-cond front ((x == ascii.backslash) && (y == ascii.lower_u)) _ None
    (λ escape. completes-and_then front (IsUnit a b c d) _ (code_unit a b c d) (unit_digits a b c d)
    (λ low is.
    let begins = and_parts (x == ascii.backslash) (y == ascii.lower_u) escape in
    let inside =
    after_ascii [] (y ∷ a ∷ b ∷ c ∷ d ∷ xs) x
    (omega (arith, eqb-true x ascii.backslash begins.0)) u.1 in
    let rest = after_digits a b c d low xs is
    (after_ascii [] (a ∷ b ∷ c ∷ d ∷ xs) y (omega (arith, eqb-true y ascii.lower_u begins.1))
    inside) in
    completes-cond front (is_low_surrogate low) _ None
    (λ h. completes-prepend front (encode_utf8 (surrogate_pair high low)) (content plain xs)
    (completes-content plain (front ++ encode_utf8 (surrogate_pair high low)) xs
    (put_behind front xs (surrogate_pair high low) u.0 (pair_scalar high low u.2 h) rest)))
    (λ _. tt)))
    (λ _. tt)

-- the string token whose opening quote precedes this text represents UTF-8
pub string_utf8 : (text : List ℕ) → IsUtf8 text → IfSome (content plain text) IsUtf8
string_utf8 text u = completes-content plain [] text u
