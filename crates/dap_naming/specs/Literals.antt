-- The literal bytes before the next part of a string, for private clauses. Source: own.
use Rattle.std.specs.Prelude.{ℕ, ◌==◌, Bool, false, not, ◌&&◌, ◌||◌, List, [], ◌∷◌, take_while}
use Rattle.std.specs.Prelude.{is_some}
use Rattle.std.specs.Char.{is_ascii_digit, is_ascii_hexdigit}
use Rattle.dap_tokens.specs.Tokens.{Labels}
use Rattle.dap_tokens.specs.declared.form.Form.TheVariants.{Digits, Hex, Long, Uuid}

-- A long run of hexadecimal digits or a UUID can start with the byte, and such a form has a label.
abbrev pub may_begin_run : Labels → ℕ → Bool
may_begin_run labels b = (is_some (labels Long) || is_some (labels Uuid)) && is_ascii_hexdigit b

-- A name can start with the byte, or a token of a form that has a label.
abbrev pub may_begin : Labels → ℕ → Bool
may_begin labels b = (b == 60) || ((is_some (labels Digits) && is_ascii_digit b)
    || ((is_some (labels Hex) && (b == 48)) || may_begin_run labels b))

-- The bytes at the start with which no name and no token starts.
abbrev pub literal_run : Labels → List ℕ → List ℕ
literal_run labels s = take_while (λ b. not (may_begin labels b)) s

-- The last byte is a hexadecimal digit.
abbrev pub ends_in_digit : List ℕ → Bool
ends_in_digit [] = false
ends_in_digit (b ∷ []) = is_ascii_hexdigit b
ends_in_digit (b ∷ c ∷ s) = ends_in_digit (c ∷ s)
