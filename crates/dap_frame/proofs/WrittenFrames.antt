-- The output for a content is a frame with this content: the scan of its header part states so.
use Rattle.std.proofs.Common.{◌≡◌, ℕ, zero, suc, ◌+◌, ◌-◌, ◌*◌, ◌/◌, ◌%◌, ◌^◌, ◌<◌, ◌≤◌, Bool, true}
use Rattle.std.proofs.Common.{false, not, ◌&&◌, List, [], ◌∷◌, ◌++◌, length, nat_eq, nat_lt, nat_le}
use Rattle.std.proofs.Common.{◌==◌, codes, decimal, Ok, refl, sym, ap, ◌∙◌, subst, arith, lit<}
use native.Mathlib.Numerals.{unary_clauses}
use Rattle.std.proofs.Math.Nat.{pow-le-pow_right}
use Rattle.std.proofs.lemmas.Bool.{and_parts}
use Rattle.std.proofs.lemmas.Fmt.{decimal_by_steps}
use Rattle.std.proofs.lemmas.List.{append_assoc, append-nil, length-append}
use Rattle.std.specs.List.{list_all}
use Rattle.std.specs.Char.{is_ascii_digit}
use Rattle.dap_frame.specs.Combinators.{in_second}
use Rattle.dap_frame.specs.declared.limits.FrameLimits.{FrameLimits}
use Rattle.dap_frame.specs.declared.length_scan.LengthScan.TheVariants.{Blank, Digits}
use Rattle.dap_frame.specs.declared.line_scan.LineScan.{LineScan}
use Rattle.dap_frame.specs.declared.line_scan.LineScan.TheVariants.{Name, Length}
use Rattle.dap_frame.specs.declared.header_scan.EndMark.TheVariants.{Nothing}
use Rattle.dap_frame.specs.declared.header_scan.ScanStep.TheVariants.{Unfinished}
use Rattle.dap_frame.specs.declared.header_scan.Findings.{Findings}
use Rattle.dap_frame.specs.Limits.{IsSound}
use Rattle.dap_frame.specs.Lines.{is_blank, is_value_byte}
use Rattle.dap_frame.specs.Frame.{BeginsWith, in_header, IsFrame, frame_text, parsed_length}
use Rattle.dap_frame.specs.LineScan.{line_step, line_run}
use Rattle.dap_frame.specs.Findings.{with_line}
use Rattle.dap_frame.specs.HeaderScan.{IsScanOf, HeaderEnds, StepGives, header_step}
use Rattle.dap_frame.proofs.LineRuns.{run_append}
use Rattle.dap_frame.proofs.HeaderParts.{header_begins, judged_by_findings}
use Rattle.dap_frame.proofs.ScanSteps.{scan_gives, scan_start, scan_of, none_found}

-- a byte that is neither CR nor LF
abbrev pub is_plain : ℕ → Bool
is_plain b = not (b == 10) && not (b == 13)

pub plain_append : (xs ys : List ℕ) → list_all is_plain xs ≡ true → list_all is_plain ys ≡ true
    → list_all is_plain (xs ++ ys) ≡ true
plain_append [] ys all more = more
plain_append (x ∷ xs) ys all more =
    let parts = and_parts (is_plain x) (list_all is_plain xs) all in
    rw (parts.0, plain_append xs ys parts.1 more) refl

-- the digits of a number below 10 ^ k, as the value of a length
record AreDigits (n k : ℕ) (text : List ℕ) : Type 0 where
  run : line_run (Length Blank) text ≡ Length (Digits (length text) n)
  few : length text ≤ k
  plain : list_all is_plain text ≡ true

first_digit : (n : ℕ) → n < 10 → (k : ℕ) → 0 < k → k ≤ 10 → n < 10 ^ k
    → AreDigits n k ((48 + n) ∷ [])
first_digit n small k some most fits =
    let value : is_value_byte (48 + n) ≡ true = grind (arith, small) in
    let no_blank : is_blank (48 + n) ≡ false = grind (arith, small) in
    let digit : is_ascii_digit (48 + n) ≡ true = grind (arith, small) in
    let number : 48 + n - 48 ≡ n = omega arith in
    let plain : is_plain (48 + n) ≡ true = grind (arith, small) in
    record {
      run = rw (value, no_blank, digit, number) refl;
      few = omega arith;
      plain = rw plain refl;
    }

next_digit : (n : ℕ) (ds : List ℕ) → 10 ≤ n
    → ((k : ℕ) → 0 < k → k ≤ 10 → n / 10 < 10 ^ k → AreDigits (n / 10) k ds)
    → (k : ℕ) → 0 < k → k ≤ 10 → n < 10 ^ k → AreDigits n k (ds ++ ((48 + n % 10) ∷ []))
next_digit n ds more before zero some most fits = absurd (omega arith)
next_digit n ds more before (suc zero) some most fits = absurd (omega arith)
next_digit n ds more before (suc (suc j)) some most fits =
    let power : 10 ^ (suc (suc j)) ≡ 10 ^ (suc j) * 10 = simp unary_clauses in
    let less : n / 10 < 10 ^ (suc j) = omega (arith, power, fits) in
    let was = before (suc j) (omega arith) (omega arith) less in
    let few = was.few in
    let bound : 10 ^ (suc j) ≤ 10 ^ 9 =
    (let short : suc j ≤ 9 = omega arith in pow-le-pow_right (lit< tt) short) in
    let last : n % 10 < 10 = omega arith in
    let value : is_value_byte (48 + n % 10) ≡ true = grind (arith, last) in
    let no_blank : is_blank (48 + n % 10) ≡ false = grind (arith, last) in
    let digit : is_ascii_digit (48 + n % 10) ≡ true = grind (arith, last) in
    let plain : is_plain (48 + n % 10) ≡ true = grind (arith, last) in
    let room : nat_lt (length ds) 10 ≡ true = grind (arith, few, most) in
    let low : nat_lt (n / 10) 1000000000 ≡ true = grind (arith, less, bound) in
    let number : n / 10 * 10 + (48 + n % 10 - 48) ≡ n = omega arith in
    let long : length (ds ++ ((48 + n % 10) ∷ [])) ≡ length ds + 1 =
    length-append ds ((48 + n % 10) ∷ []) in
    let stepped : line_step (Length (Digits (length ds) (n / 10))) (48 + n % 10)
    ≡ Length (Digits (length ds + 1) n) = rw (value, no_blank, digit, room, low, number) refl in
    record {
      run = run_append (Length Blank) ds ((48 + n % 10) ∷ [])
          ∙ ap (λ s. line_step s (48 + n % 10)) was.run ∙ stepped
          ∙ ap (λ c. Length (Digits c n)) (sym long);
      few = omega (arith, long);
      plain = plain_append ds ((48 + n % 10) ∷ []) was.plain (rw plain refl);
    }

-- the decimal text of a number is its digits
decimal_is : (n : ℕ) → n < 10 ^ 10 → AreDigits n 10 (decimal n)
decimal_is n small =
    let wide : n < 2 ^ 64 = omega arith in
    decimal_by_steps (λ n ds. (k : ℕ) → 0 < k → k ≤ 10 → n < 10 ^ k
    → AreDigits n k ds) first_digit next_digit n wide 10 (omega arith) (omega arith) small

-- a run of bytes that are neither CR nor LF
scan_plain : (limits : FrameLimits) (bytes text : List ℕ) (count : ℕ) (findings : Findings)
    (line : LineScan)
    → list_all is_plain text ≡ true
    → IsScanOf limits bytes (scan_of count Nothing findings line)
    → (n : ℕ) × IsScanOf limits (bytes ++ text) (scan_of n Nothing findings (line_run line text))
scan_plain limits bytes [] count findings line all is = (
  count,
  subst (λ xs. IsScanOf limits xs (scan_of count Nothing findings line))
      (sym (append-nil bytes)) is,
)
scan_plain limits bytes (b ∷ text) count findings line all is =
    let parts = and_parts (is_plain b) (list_all is_plain text) all in
    let each = and_parts (not (b == 10)) (not (b == 13)) parts.0 in
    let no_lf : nat_eq b 10 ≡ false = grind (arith, each.0) in
    let no_cr : nat_eq b 13 ≡ false = grind (arith, each.1) in
    let steps : header_step limits (scan_of count Nothing findings line) b
    ≡ Unfinished (scan_of (count + 1) Nothing findings (line_step line b)) =
    rw (no_lf, no_cr) refl in
    let next = subst (StepGives limits bytes b) steps
    (scan_gives limits bytes (scan_of count Nothing findings line) b is) in
    let rest = scan_plain limits (bytes ++ b ∷ []) text (count + 1) findings (line_step line b)
    parts.1 next in (
      rest.0,
      subst
          (λ xs. IsScanOf limits xs (scan_of rest.0 Nothing findings (line_run line (b ∷ text))))
          (append_assoc bytes (b ∷ []) text) rest.1,
    )

-- the name of the only field
pub name_scan : (limits : FrameLimits)
    → IsScanOf limits (codes "Content-Length: ") (scan_of 16 Nothing none_found (Length Blank))
name_scan limits =
    let s = scan_plain limits [] (codes "Content-Length: ") 0 none_found (Name 0) refl
    (scan_start limits) in
    subst (λ n. IsScanOf limits (codes "Content-Length: ")
    (scan_of n Nothing none_found (Length Blank))) s.1.count s.1

-- the only line, and the end of the header part
ends_after : (limits : FrameLimits) (line : List ℕ) → list_all is_plain line ≡ true
    → HeaderEnds limits (line ++ codes "\r\n\r\n")
    (with_line limits none_found (line_run (Name 0) line))
ends_after limits line plain =
    let s = scan_plain limits [] line 0 none_found (Name 0) plain (scan_start limits) in
    let cr = scan_gives limits line _ 13 s.1 in
    let lf = scan_gives limits (line ++ 13 ∷ []) _ 10 cr in
    let cr_again = scan_gives limits ((line ++ 13 ∷ []) ++ 10 ∷ []) _ 13 lf in
    let ended = scan_gives limits (((line ++ 13 ∷ []) ++ 10 ∷ []) ++ 13 ∷ []) _ 10 cr_again in
    subst (λ xs. HeaderEnds limits xs (with_line limits none_found (line_run (Name 0) line)))
    (simp append_assoc) ended

-- a header part with one line, the field Content-Length with these digits
pub length_header : (limits : FrameLimits) (digits : List ℕ) (count n : ℕ) → IsSound limits
    → line_run (Length Blank) digits ≡ Length (Digits count n) → length digits ≤ 10
    → list_all is_plain digits ≡ true → n ≤ limits.content
    → BeginsWith limits ((codes "Content-Length: " ++ digits) ++ codes "\r\n\r\n")
    (length ((codes "Content-Length: " ++ digits) ++ codes "\r\n\r\n")) (Ok n)
length_header limits digits count n sound digits_run few plain short =
    let low = sound.header_low in
    let line : List ℕ = codes "Content-Length: " ++ digits in
    let header : List ℕ = line ++ codes "\r\n\r\n" in
    let run : line_run (Name 0) line ≡ Length (Digits count n) =
    run_append (Name 0) (codes "Content-Length: ") digits ∙ digits_run in
    let ends = subst (λ s. HeaderEnds limits header (with_line limits none_found s)) run
    (ends_after limits line (plain_append (codes "Content-Length: ") digits refl plain)) in
    let fits : nat_le n limits.content ≡ true = grind (arith, short) in
    let says : parsed_length limits ends.lines ≡ Ok n =
    judged_by_findings limits ends.lines _ ends.found refl ∙ rw fits refl in
    let size : length header ≤ 30 =
    omega (
      arith,
      length-append line (codes "\r\n\r\n"),
      length-append (codes "Content-Length: ") digits,
      few,
    ) in
    subst (BeginsWith limits header (length header)) says
    (header_begins limits header _ ends (omega arith))

pub written_is_frame : (limits : FrameLimits) (content : List ℕ) → IsSound limits
    → length content ≤ limits.content
    → IsFrame limits (frame_text content) content
written_is_frame limits content sound short =
    let high = sound.content_high in
    let n : ℕ = length content in
    let digits = decimal_is n (omega arith) in
    let header : List ℕ = (codes "Content-Length: " ++ decimal n) ++ codes "\r\n\r\n" in
    let begins = length_header limits (decimal n) (length (decimal n)) n sound digits.run
    digits.few digits.plain short in
    in_second header content n refl (in_header begins) (refl, refl)
