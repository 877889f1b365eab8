-- Scalars as they are written. Source: JSON (RFC 8259), which YAML 1.2 contains, and YAML 1.2,
-- section 5.1, for the characters that are not allowed.
use Rattle.std.specs.Prelude.{ℕ, ◌/◌, ◌%◌, ◌==◌, Bool, cond, ◌&&◌, ◌||◌, nat_le, List, [], ◌∷◌}
use Rattle.std.specs.Prelude.{◌++◌, codes}
use Rattle.std.specs.{Char.{digit_char, encode_utf8}, List.flat_map, Str.chars}
use Rattle.dap_tree.specs.{Doc.{Doc, text}, Json.text_of}

-- The characters from U+007F to U+009F, U+2028, U+2029, U+FEFF, U+FFFE and U+FFFF. YAML 1.2 does
-- not allow them, or readers take them for line ends or a byte order mark.
abbrev pub is_escaped : ℕ → Bool
is_escaped c =
    (nat_le 0x7f c && nat_le c 0x9f)
    || ((nat_le 0x2028 c && nat_le c 0x2029)
    || ((c == 0xfeff) || (nat_le 0xfffe c && nat_le c 0xffff)))

-- `\u` and four lower-case hexadecimal digits (JSON).
abbrev pub escape : ℕ → List ℕ
escape c =
    codes "\\u" ++ (digit_char (c / 4096 % 16) ∷ digit_char (c / 256 % 16)
    ∷ digit_char (c / 16 % 16) ∷ digit_char (c % 16) ∷ [])

-- A character of the canonical JSON text, as it is written.
abbrev pub char_text : ℕ → List ℕ
char_text c = cond (is_escaped c) (escape c) (encode_utf8 c)

-- A text with these characters escaped.
abbrev pub escaped : List ℕ → List ℕ
escaped s = flat_map char_text (chars s)

-- A string: its canonical JSON text, with these characters escaped.
abbrev pub string_text : List ℕ → List ℕ
string_text s = escaped (text_of (text s))

-- A printable ASCII character that a string has as it is: not a quote or a backslash.
abbrev pub is_simple : ℕ → Bool
is_simple b =
    (nat_le 0x20 b && nat_le b 0x21)
    || ((nat_le 0x23 b && nat_le b 0x5b) || (nat_le 0x5d b && nat_le b 0x7e))

-- A scalar, an empty list or an empty object: its canonical JSON text, in which only a string has
-- such characters.
abbrev pub scalar : Doc → List ℕ
scalar (text s) = string_text s
scalar d = text_of d
