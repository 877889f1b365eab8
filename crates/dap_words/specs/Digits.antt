-- The actions `digits` and `hex` on a text. `digits` replaces each run of decimal digits by one
-- `0`, and `hex` replaces each `0x` or `0X` with hexadecimal digits after it by `0x0`.
use Rattle.std.specs.Prelude.{ℕ, ◌==◌, Bool, true, false, cond, ◌&&◌, ◌||◌, List, [], ◌∷◌}
use Rattle.std.specs.Char.{is_ascii_digit, is_ascii_hexdigit}

-- `inside` is true if a decimal digit comes before the text.
abbrev pub digits_from : Bool → List ℕ → List ℕ
digits_from inside [] = []
digits_from inside (b ∷ s) =
    cond (is_ascii_digit b) (cond inside (digits_from true s) (48 ∷ digits_from true s)) (b
    ∷ digits_from false s)

abbrev pub digits : List ℕ → List ℕ
digits = digits_from false

-- `x` or `X`.
abbrev pub is_x : ℕ → Bool
is_x b = (b == 120) || (b == 88)

-- The text starts with an `x` and a hexadecimal digit.
abbrev pub goes_on_as_hex : List ℕ → Bool
goes_on_as_hex (x ∷ h ∷ s) = is_x x && is_ascii_hexdigit h
goes_on_as_hex _ = false

-- A hexadecimal number starts: `0x` or `0X`, and a hexadecimal digit after it.
abbrev pub begins_hex : ℕ → List ℕ → Bool
begins_hex b s = (b == 48) && goes_on_as_hex s

-- The results outside a hexadecimal number, after its 0, after its x, and after its first digit.
abbrev mutual
  pub hex : List ℕ → List ℕ
  hex [] = []
  hex (b ∷ s) = cond (begins_hex b s) (48 ∷ behind_zero s) (b ∷ hex s)

  pub behind_zero : List ℕ → List ℕ
  behind_zero [] = []
  behind_zero (b ∷ s) = 120 ∷ behind_x s

  pub behind_x : List ℕ → List ℕ
  behind_x [] = []
  behind_x (b ∷ s) = 48 ∷ in_number s

  pub in_number : List ℕ → List ℕ
  in_number [] = []
  in_number (b ∷ s) = cond (is_ascii_hexdigit b) (in_number s) (b ∷ hex s)
