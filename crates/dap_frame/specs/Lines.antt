-- A header part, its lines and their fields. A byte is its number: 13 is CR, 10 is LF, 9 is TAB, 32
-- is a space, 58 is a colon.
use Rattle.std.specs.Prelude.{◌≡◌, ℕ, ◌+◌, ◌-◌, ◌*◌, ◌<◌, ◌≤◌, Bool, true, false, not, ◌&&◌, ◌||◌}
use Rattle.std.specs.Prelude.{List, [], ◌∷◌, ◌++◌, length, take, drop, codes, nat_eq, nat_lt}
use Rattle.std.specs.Prelude.{nat_le, ◌==◌}
use Rattle.std.specs.List.{ends_with, list_all, fold, before_first, after_first, prefix_len}
use Rattle.std.specs.List.{suffix_len, flat_map, AllByRecursion}
use Rattle.std.specs.Str.{str_eq_ignore_ascii_case}
use Rattle.std.specs.Char.{is_ascii_digit}

-- CR LF, the end of a line (DAP base protocol)
abbrev pub line_end : List ℕ
line_end = 13 ∷ 10 ∷ []

-- CR LF CR LF, the end of a header part (DAP base protocol)
abbrev pub header_end : List ℕ
header_end = 13 ∷ 10 ∷ 13 ∷ 10 ∷ []

-- the first k bytes end with the mark
abbrev pub ends_at : List ℕ → List ℕ → ℕ → Bool
ends_at mark bytes k = ends_with nat_eq (take k bytes) mark

-- The first occurrence of the mark in the bytes ends at byte k.
pub record IsFirstEnd (mark bytes : List ℕ) (k : ℕ) : Type 0 where
  pub within : k ≤ length bytes
  pub ends : ends_at mark bytes k ≡ true
  pub first : (j : ℕ) → j < k → ends_at mark bytes j ≡ false

-- The mark does not occur in the bytes.
abbrev pub Lacks : List ℕ → List ℕ → Type 0
Lacks mark bytes = (j : ℕ) → j ≤ length bytes → ends_at mark bytes j ≡ false

-- each line with its CR LF
abbrev pub ended : List (List ℕ) → List ℕ
ended lines = flat_map (λ line. line ++ line_end) lines

-- The header part consists of these lines, each ended by its first CR LF, and another CR LF (DAP
-- base protocol).
pub record AreLines (header : List ℕ) (lines : List (List ℕ)) : Type 0 where
  pub bytes : header ≡ ended lines ++ line_end
  pub each : AllByRecursion (Lacks line_end) lines

-- a byte of a field's name: 0x21 to 0x7E other than a colon (own; the base protocol requires ASCII)
abbrev pub is_name_byte : ℕ → Bool
is_name_byte b = nat_le 33 b && nat_le b 126 && not (b == 58)

-- a byte of a field's value: 0x20 to 0x7E and TAB (own)
abbrev pub is_value_byte : ℕ → Bool
is_value_byte b = (nat_le 32 b && nat_le b 126) || (b == 9)

-- the end of a field's name (DAP base protocol)
abbrev pub is_colon : ℕ → Bool
is_colon b = b == 58

-- a space or a TAB, which may surround a value (own)
abbrev pub is_blank : ℕ → Bool
is_blank b = (b == 32) || (b == 9)

-- the part of the line before its first colon
abbrev pub name_of : List ℕ → List ℕ
name_of line = before_first is_colon line

-- the part of the line after its first colon
abbrev pub value_of : List ℕ → List ℕ
value_of line = after_first is_colon line

-- the line is a field: a non-empty name, a colon and a value (DAP base protocol)
abbrev pub is_field_line : List ℕ → Bool
is_field_line line =
    nat_lt 0 (length (name_of line)) && nat_lt (length (name_of line)) (length line)
    && list_all is_name_byte (name_of line) && list_all is_value_byte (value_of line)

-- the line's field is named Content-Length (DAP base protocol), in upper or lower case (own)
abbrev pub is_length_line : List ℕ → Bool
is_length_line line = str_eq_ignore_ascii_case (name_of line) (codes "content-length")

-- without leading blanks
abbrev pub without_front : List ℕ → List ℕ
without_front bytes = drop (prefix_len is_blank bytes) bytes

-- without leading and trailing blanks
abbrev pub trimmed : List ℕ → List ℕ
trimmed bytes =
    take (length (without_front bytes) - suffix_len is_blank (without_front bytes))
    (without_front bytes)

-- 1 to 10 decimal digits; leading zeros are allowed (own)
abbrev pub is_length_text : List ℕ → Bool
is_length_text text =
    nat_lt 0 (length text) && nat_le (length text) 10 && list_all is_ascii_digit text

-- the number that decimal digits represent
abbrev pub number_of : List ℕ → ℕ
number_of text = fold (λ n digit. n * 10 + (digit - 48)) 0 text
