-- The values of tokens. Two tokens of one label are the same id if their values are equal.
use Rattle.std.specs.Prelude.{ℕ, ◌==◌, Bool, cond, ◌&&◌, ◌||◌, List, [], ◌∷◌, ◌++◌, length}
use Rattle.std.specs.Prelude.{codes, drop, map, bytes_eq, nat_lt}
use Rattle.std.specs.Char.{to_ascii_lowercase}
use Rattle.dap_words.specs.Uuids.{nil_uuid}
use Rattle.dap_tokens.specs.Tokens.{name_length, number_in}
use Rattle.dap_tokens.specs.declared.form.Form.{Form}
use Rattle.dap_tokens.specs.declared.form.Form.TheVariants.{Whole, Digits, Hex, Long, Uuid}

-- The digits without leading zeros. The last digit always stays.
abbrev pub without_zeros : List ℕ → List ℕ
without_zeros [] = []
without_zeros (b ∷ []) = b ∷ []
without_zeros (b ∷ c ∷ s) = cond (b == 48) (without_zeros (c ∷ s)) (b ∷ c ∷ s)

abbrev pub lower : List ℕ → List ℕ
lower s = map to_ascii_lowercase s

-- The value of a hexadecimal number with these digits.
abbrev pub hex_value : List ℕ → List ℕ
hex_value digits = codes "0x" ++ without_zeros (lower digits)

-- The value of a token of a form that is not a name (own).
abbrev pub value_of_form : Form → List ℕ → List ℕ
value_of_form Whole t = t
value_of_form Digits t = without_zeros t
value_of_form Hex t = hex_value (drop 2 t)
value_of_form Long t = hex_value t
value_of_form Uuid t = lower t

-- The token is a name.
abbrev pub is_name : List ℕ → List ℕ → Bool
is_name label t = nat_lt 0 (name_length label t) && (name_length label t == length t)

-- The value of a token (own): of a name its number, in decimal digits.
abbrev pub value : List ℕ → Form → List ℕ → List ℕ
value label form t = cond (is_name label t) (number_in label t) (value_of_form form t)

-- The value is not an id (own): zero, the nil UUID, or an empty string.
abbrev pub is_nothing : List ℕ → Bool
is_nothing v = bytes_eq v [] || (bytes_eq v (codes "0") || (bytes_eq v (codes "0x0")
    || bytes_eq v nil_uuid))
