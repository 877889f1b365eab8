-- The digits of a length and the end of its header part are read without the byte-by-byte scan.
use Rattle.std.proofs.Common.{◌≡◌, ℕ, ◌+◌, ◌-◌, ◌*◌, ◌^◌, ◌<◌, ◌≤◌, true, false, List, ◌∷◌, [], ◌++◌}
use Rattle.std.proofs.Common.{cond, length, take, drop, get_or, nat_eq, nat_lt, codes, Ok, refl, sym}
use Rattle.std.proofs.Common.{ap, ◌∙◌, subst, arith, lit<, inl, inr}
use native.Mathlib.Numerals.{unary_clauses}
use Rattle.std.proofs.Math.Nat.{pow-le-pow_right}
use Rattle.std.proofs.Math.Seq.{take-add}
use Rattle.std.proofs.lemmas.Bool.{cases_Bool, eqb-true}
use Rattle.std.proofs.lemmas.List.{append_assoc, length-append, length-drop, take_at, take_more}
use Rattle.std.specs.List.{list_all}
use Rattle.std.specs.Char.{is_ascii_digit}
use Rattle.dap_frame.specs.declared.limits.FrameLimits.{FrameLimits}
use Rattle.dap_frame.specs.declared.length_scan.LengthScan.{LengthScan}
use Rattle.dap_frame.specs.declared.length_scan.LengthScan.TheVariants.{Blank, Digits}
use Rattle.dap_frame.specs.declared.line_scan.LineScan.TheVariants.{Length}
use Rattle.dap_frame.specs.Limits.{IsSound}
use Rattle.dap_frame.specs.Lines.{is_blank, is_value_byte}
use Rattle.dap_frame.specs.Frame.{BeginsWith}
use Rattle.dap_frame.specs.LineScan.{line_step, line_run}
use Rattle.dap_frame.specs.Progress.{HasEnded}
use Rattle.dap_frame.proofs.LineRuns.{run_append}
use Rattle.dap_frame.proofs.UsualNames.{name_text}
use Rattle.dap_frame.proofs.WrittenFrames.{is_plain, length_header, plain_append}

-- the scan after these digits
abbrev pub scan_at : ℕ → ℕ → LengthScan
scan_at count number = cond (nat_eq count 0) Blank (Digits count number)

-- These bytes are `count` digits of this number.
pub record AreDigitsOf (number count : ℕ) (digits : List ℕ) : Type 0 where
  pub long : length digits ≡ count
  pub small : number < 10 ^ count
  pub run : line_run (Length Blank) digits ≡ Length (scan_at count number)
  pub plain : list_all is_plain digits ≡ true

scan_some : (count number : ℕ) → 0 < count → scan_at count number ≡ Digits count number
scan_some count number some =
    let is : nat_eq count 0 ≡ false = grind (arith, some) in rw is refl

stepped : (number count b : ℕ) → count ≤ 8 → is_ascii_digit b ≡ true → number < 10 ^ count
    → line_step (Length (scan_at count number)) b
    ≡ Length (Digits (count + 1) (number * 10 + (b - 48)))
stepped number count b few digit small =
    let value : is_value_byte b ≡ true = grind (arith, digit) in
    let no_blank : is_blank b ≡ false = grind (arith, digit) in
    elim (cases_Bool (nat_eq count 0)) [
      | inl none ↦ (
          let count_is : count ≡ 0 = eqb-true count 0 none in
          let one : count + 1 ≡ 1 = omega arith in
          let no_more : number < 1 = subst (λ k. number < 10 ^ k) count_is small in
          let start : number * 10 + (b - 48) ≡ b - 48 = omega arith in
          rw (none, value, no_blank, digit, one, start) refl)
      | inr some ↦ (
          let room : nat_lt count 10 ≡ true = grind (arith, few) in
          let bound : 10 ^ count ≤ 10 ^ 8 = pow-le-pow_right (lit< tt) few in
          let low : nat_lt number 1000000000 ≡ true = grind (arith, small, bound) in
          rw (some, value, no_blank, digit, room, low) refl)
    ]

digit_more : (number count b : ℕ) (digits : List ℕ) → count ≤ 8 → is_ascii_digit b ≡ true
    → AreDigitsOf number count digits
    → AreDigitsOf (number * 10 + (b - 48)) (count + 1) (digits ++ b ∷ [])
digit_more number count b digits few digit was =
    let small = was.small in
    let power : 10 ^ (count + 1) ≡ 10 ^ count * 10 = simp unary_clauses in
    let low : b - 48 ≤ 9 = grind (arith, digit) in
    let plain : is_plain b ≡ true = grind (arith, digit) in
    record {
      long = length-append digits (b ∷ []) ∙ ap (λ n. n + 1) was.long;
      small = omega (arith, power, small, low);
      run = run_append (Length Blank) digits (b ∷ []) ∙ ap (λ s. line_step s b) was.run
          ∙ stepped number count b few digit small
          ∙ ap Length (sym (scan_some (count + 1) (number * 10 + (b - 48)) (omega arith)));
      plain = plain_append digits (b ∷ []) was.plain (rw plain refl);
    }

-- after at most 8 digits there is room for one more
pub digits_fit : (number count : ℕ) (digits : List ℕ) → count ≤ 8 → AreDigitsOf number count digits
    → number < 100000000
digits_fit number count digits few was =
    let small = was.small in
    let bound : 10 ^ count ≤ 10 ^ 8 = pow-le-pow_right (lit< tt) few in
    omega (arith, small, bound)

pub no_digits : (text : List ℕ) → AreDigitsOf 0 0 (take 0 text)
no_digits text =
    record { long = refl; small = omega arith; run = refl; plain = refl }

module _ (text : List ℕ) (i number : ℕ) (digits : AreDigitsOf number i (take i text)) where
  -- one more digit
  pub more_digits : i < length text → i ≤ 8 → is_ascii_digit (get_or text i 0) ≡ true
      → AreDigitsOf (number * 10 + (get_or text i 0 - 48)) (i + 1) (take (i + 1) text)
  more_digits inside few digit =
      subst (AreDigitsOf (number * 10 + (get_or text i 0 - 48)) (i + 1))
      (sym (take_more text i 0 inside))
      (digit_more number i (get_or text i 0) (take i text) few digit digits)

  -- the end of the header part directly after the digits
  pub plain_ended : (limits : FrameLimits) → IsSound limits → 0 < i → i ≤ 9
      → number ≤ limits.content
      → drop i text ≡ codes "\r\n\r\n" ++ drop 4 (drop i text)
      → HasEnded limits name_text text (i + 4 + 16) number (i + 4)
  plain_ended limits sound some few short ends =
      let within : i + 4 ≤ length text =
      omega (
        arith,
        ap length ends,
        length-append (codes "\r\n\r\n") (drop 4 (drop i text)),
        length-drop i text,
      ) in
      let taken : take (i + 4) text ≡ take i text ++ codes "\r\n\r\n" =
      take-add i 4 text
      ∙ ap (λ xs. take i text ++ xs)
      (ap (take 4) ends ∙ take_at (codes "\r\n\r\n") (drop 4 (drop i text)) 4 refl) in
      let header : (name_text ++ take i text) ++ codes "\r\n\r\n" ≡ name_text ++ take (i + 4) text =
      append_assoc name_text (take i text) (codes "\r\n\r\n")
      ∙ ap (λ xs. name_text ++ xs) (sym taken) in
      let begins = length_header limits (take i text) i number sound
      (digits.run ∙ ap Length (scan_some i number some)) (omega (arith, digits.long)) digits.plain
      short in
      let long : length (name_text ++ take (i + 4) text) ≡ i + 4 + 16 =
      omega (
        arith,
        length-append name_text (take (i + 4) text),
        ap length taken,
        length-append (take i text) (codes "\r\n\r\n"),
        digits.long,
      ) in
      record {
        within = within;
        some = omega arith;
        header_len_is = sym long;
        header = subst (λ k. BeginsWith limits (name_text ++ take (i + 4) text) k (Ok number)) long
            (subst (λ xs. BeginsWith limits xs (length xs) (Ok number)) header begins);
        small = short;
      }
