-- Names of members as they are written. Source: YAML 1.2 (plain scalars), and own.
use Rattle.std.specs.Prelude.{ℕ, ◌==◌, Bool, false, cond, not, ◌&&◌, ◌||◌, List, [], ◌∷◌, ◌++◌}
use Rattle.std.specs.Prelude.{length, take, drop, codes, bytes_eq}
use Rattle.std.specs.Char.{is_ascii_alphabetic, is_ascii_digit}
use Rattle.std.specs.{List.list_all, Str.str_to_ascii_lowercase}
use Rattle.dap_tree.specs.Side.{side_text}
use Rattle.dap_tree.specs.declared.side.Side.TheVariants.{Client, Adapter}
use Rattle.dap_transcript.specs.Scalars.{string_text}

-- An ASCII letter or `_`.
abbrev pub is_letter : ℕ → Bool
is_letter b = is_ascii_alphabetic b || (b == 95)

-- An ASCII letter, `_` or a decimal digit.
abbrev pub is_name_byte : ℕ → Bool
is_name_byte b = is_letter b || is_ascii_digit b

-- A letter, and after it only letters and digits.
abbrev pub has_plain_form : List ℕ → Bool
has_plain_form [] = false
has_plain_form (b ∷ s) = is_letter b && list_all is_name_byte s

-- The name is this word, in any case of its letters.
abbrev pub is_word : List ℕ → List ℕ → Bool
is_word w k = bytes_eq (str_to_ascii_lowercase k) (str_to_ascii_lowercase w)

-- The words that some YAML reader takes for a boolean, null or a number (YAML 1.1 and 1.2, and
-- readers with types of their own).
abbrev pub is_typed_word : List ℕ → Bool
is_typed_word k =
    is_word (codes "y") k || is_word (codes "n") k || is_word (codes "yes") k
    || is_word (codes "no") k || is_word (codes "on") k || is_word (codes "off") k
    || is_word (codes "true") k || is_word (codes "false") k || is_word (codes "null") k
    || is_word (codes "nan") k || is_word (codes "inf") k

-- `e` or `E`, and after it one or more decimal digits: an exponent, which some reader takes for a
-- number.
abbrev pub is_e : ℕ → Bool
is_e b = (b == 101) || (b == 69)

abbrev pub is_exponent : List ℕ → Bool
is_exponent [] = false
is_exponent (b ∷ []) = false
is_exponent (b ∷ c ∷ s) = is_e b && list_all is_ascii_digit (c ∷ s)

-- The name is written without quotes.
abbrev pub is_plain : List ℕ → Bool
is_plain k = has_plain_form k && not (is_typed_word k || is_exponent k)

-- A name that is not plain is written as a string.
abbrev pub name_text : List ℕ → List ℕ
name_text k = cond (is_plain k) k (string_text k)

-- ---- the names of the head

-- The word, with any number of `_` after it.
abbrev pub has_underscores : List ℕ → List ℕ → Bool
has_underscores w k =
    bytes_eq (take (length w) k) w && list_all (λ b. b == 95) (drop (length w) k)

-- The name could be taken for that of a head.
abbrev pub names_head : List ℕ → Bool
names_head k = has_underscores (side_text Client) k || has_underscores (side_text Adapter) k

-- The name under which a member of the message itself is written (own): such a name has one `_`
-- more, so no other name becomes equal to it.
abbrev pub member_name : List ℕ → List ℕ
member_name k = cond (names_head k) (k ++ codes "_") k
