-- Digits, as the code reads them.
use Rattle.std.specs.Prelude.{ℕ, ◌==◌, Bool, false, cond, ◌&&◌, List, ◌∷◌, length, drop, take_while}
use Rattle.std.specs.Char.{is_ascii_digit}
use Rattle.dap_words.specs.Runs.{begins_with}
use Rattle.dap_tokens.specs.Tokens.{is_numeral}

-- The number of digits of the numeral with `>` after it, or 0 if none starts here.
abbrev pub numeral_length : List ℕ → ℕ
numeral_length s =
    let digits = take_while is_ascii_digit s in
    cond (is_numeral digits && begins_with (λ b. b == 62) (drop (length digits) s))
    (length digits) 0

-- The first digit is a zero and not the only digit.
abbrev pub has_leading_zero : List ℕ → Bool
has_leading_zero (b ∷ c ∷ s) = b == 48
has_leading_zero _ = false
