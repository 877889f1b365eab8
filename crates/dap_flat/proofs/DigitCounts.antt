-- The number of decimal digits, one digit after the other.
use Rattle.std.proofs.Common.{◌≡◌, ℕ, ◌+◌, ◌/◌, ◌<◌, ◌≤◌, ◌^◌, length, ap, ◌∙◌, arith, length-append}
use Rattle.std.specs.Prelude.{decimal}
use Rattle.std.proofs.lemmas.Fmt.{decimal_digit, decimal_step, length-decimal-le}

pub one_digit : (n : ℕ) → n < 10 → length (decimal n) ≡ 1
one_digit n low = ap length (decimal_digit n low)

pub one_more_digit : (n : ℕ) → 10 ≤ n → n < 2 ^ 64
    → length (decimal n) ≡ length (decimal (n / 10)) + 1
one_more_digit n high fits =
    ap length (decimal_step n high fits) ∙ length-append (decimal (n / 10)) _

pub few_digits : (n : ℕ) → n < 2 ^ 64 → length (decimal n) ≤ 20
few_digits n fits = length-decimal-le 20 n (omega arith) (omega arith) fits
