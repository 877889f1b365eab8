-- The decimal digits of a number.
use Rattle.std.proofs.Common.{◌≡◌, ℕ, ◌+◌, ◌/◌, ◌%◌, ◌^◌, ◌<◌, ◌≤◌, ◌==◌, Bool, true, false}
use Rattle.std.proofs.Common.{not, ◌&&◌, List, [], ◌∷◌, ◌++◌, refl, ◌∙◌, arith, nat_le}
use Rattle.std.specs.Prelude.{decimal}
use Rattle.std.specs.Char.{is_ascii_digit}
use Rattle.std.proofs.lemmas.Bool.{le-leb, ne_eqb}
use Rattle.std.proofs.lemmas.Fmt.{decimal_by_steps}
use Rattle.dap_words.specs.Runs.{all_of, begins_with}
use Rattle.dap_tokens.specs.Tokens.{is_numeral}
use Rattle.dap_tokens.proofs.Booleans.{and_both, not_false}
use Rattle.dap_tokens.proofs.Classes.{all_append}

-- the list has digits, and only digits, and starts with 0 only for 0
record IsDecimal (n : ℕ) (ds : List ℕ) : Type 0 where
  begun : begins_with is_ascii_digit ds ≡ true
  all : all_of is_ascii_digit ds ≡ true
  first : 0 < n → begins_with (λ b. b == 48) ds ≡ false

a_digit : (n : ℕ) → n < 10 → is_ascii_digit (48 + n) ≡ true
a_digit n h = and_both (nat_le 48 (48 + n)) (nat_le (48 + n) 57) (le-leb 48 (48 + n) (omega arith))
    (le-leb (48 + n) 57 (omega arith))

begun_append : (p : ℕ → Bool) (ds es : List ℕ) → begins_with is_ascii_digit ds ≡ true
    → begins_with p (ds ++ es) ≡ begins_with p ds
begun_append p [] es h = absurd cc
begun_append p (d ∷ ds) es h = refl

one_digit : (n : ℕ) → n < 10 → IsDecimal n ((48 + n) ∷ [])
one_digit n h = record {
  begun = a_digit n h;
  all = and_both (is_ascii_digit (48 + n)) true (a_digit n h) refl;
  first = λ some. ne_eqb (48 + n) 48 (λ e. absurd (omega arith));
}

more_digits : (n : ℕ) (ds : List ℕ) → 10 ≤ n → IsDecimal (n / 10) ds
    → IsDecimal n (ds ++ ((48 + n % 10) ∷ []))
more_digits n ds h r =
    let small : n % 10 < 10 = omega arith in
    record {
      begun = begun_append is_ascii_digit ds ((48 + n % 10) ∷ []) r.begun ∙ r.begun;
      all = all_append is_ascii_digit ds ((48 + n % 10) ∷ []) r.all
          (and_both (is_ascii_digit (48 + n % 10)) true (a_digit (n % 10) small) refl);
      first = λ some. begun_append (λ b. b == 48) ds ((48 + n % 10) ∷ []) r.begun
          ∙ r.first (omega arith);
    }

decimal_is : (n : ℕ) → n < 2 ^ 64 → IsDecimal n (decimal n)
decimal_is n h = decimal_by_steps IsDecimal one_digit more_digits n h

pub numeral_of : (n : ℕ) → 0 < n → n < 2 ^ 64 → is_numeral (decimal n) ≡ true
numeral_of n some small =
    let r = decimal_is n small in
    and_both (begins_with is_ascii_digit (decimal n))
    (all_of is_ascii_digit (decimal n) && not (begins_with (λ b. b == 48) (decimal n))) r.begun
    (and_both (all_of is_ascii_digit (decimal n)) (not (begins_with (λ b. b == 48) (decimal n)))
    r.all (not_false (begins_with (λ b. b == 48) (decimal n)) (r.first some)))
