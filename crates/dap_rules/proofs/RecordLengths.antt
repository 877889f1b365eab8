-- A record with a longer content is longer, and so is the text of longer messages.
use Rattle.std.proofs.Common.{◌≡◌, ◌⊎◌, inl, inr, ℕ, zero, suc, ◌+◌, ◌/◌, ◌<◌, ◌≤◌, ◌^◌, true, List}
use Rattle.std.proofs.Common.{[], ◌∷◌, ◌++◌, length, map, codes, decimal, arith, length-append}
use Rattle.std.specs.List.{AllByRecursion}
use Rattle.std.proofs.lemmas.Bool.{cases_lt}
use Rattle.std.proofs.lemmas.Fmt.{decimal_nonempty}
use Rattle.dap_tree.specs.{Doc.is_plain, Json.text_of, declared.side.Side.Side}
use Rattle.dap_flat.proofs.DigitCounts.{one_digit, one_more_digit}
use Rattle.dap_message.specs.Message.{Sent}
use Rattle.dap_recording.specs.Recording.{record_text}
use Rattle.dap_naming.specs.SessionLaws.{typed_sent}
use Rattle.dap_input.specs.{Limits.AreSound, declared.limits.Limits.Limits}
use Rattle.dap_normalise.specs.{Accepting.{Fits, text}, JudgingSteps.record_of}
use Rattle.dap_rules.proofs.TypedLengths.{typed_longer}

-- A greater number has no fewer digits. The first argument is at least the number.
digits_at : (n m : ℕ) → n ≤ m → m < 2 ^ 64
    → (9 < n → length (decimal (n / 10)) ≤ length (decimal (m / 10))) → (9 < n) ⊎ (n ≤ 9)
    → length (decimal n) ≤ length (decimal m)
digits_at n m less fits front (inl high) =
    let one = one_more_digit n (omega arith) (omega arith) in
    let two = one_more_digit m (omega arith) fits in
    let rest = front high in
    omega (arith, one, two, rest)
digits_at n m less fits front (inr low) =
    omega (arith, one_digit n (omega arith), decimal_nonempty m fits)

digits_by : (most n m : ℕ) → n ≤ most → n ≤ m → m < 2 ^ 64
    → length (decimal n) ≤ length (decimal m)
digits_by zero n m low less fits =
    digits_at n m less fits (λ high. absurd (omega (arith, high))) (cases_lt 9 n)
digits_by (suc most) n m low less fits =
    digits_at n m less fits
    (λ high. digits_by most (n / 10) (m / 10) (omega (arith, high)) (omega arith) (omega arith))
    (cases_lt 9 n)

length-record : (side : Side) (content : List ℕ)
    → length (record_text side content) ≡ length (decimal (length content)) + length content + 22
length-record side content =
    let header = decimal (length content) ++ codes "\r\n\r\n" in
    let one = length-append (header ++ content) (10 ∷ []) in
    let two = length-append header content in
    let three = length-append (decimal (length content)) (codes "\r\n\r\n") in
    omega (arith, one, two, three)

pub record_longer : (side : Side) (content other : List ℕ) → length content ≤ length other
    → length other < 2 ^ 64
    → length (record_text side content) ≤ length (record_text side other)
record_longer side content other less fits =
    omega (
      arith,
      less,
      digits_by (length content) (length content) (length other) (omega arith) less fits,
      length-record side content,
      length-record side other,
    )

module _ (limits : Limits) (sound : AreSound limits) where
  abbrev IsShort : Sent → Type 0
  IsShort m = length (text_of m.doc) ≤ limits.frame.content

  abbrev IsPlain : Sent → Type 0
  IsPlain m = is_plain m.doc ≡ true

  each_short : (ms : List Sent) → AllByRecursion IsPlain ms
      → AllByRecursion IsShort (map typed_sent ms) → AllByRecursion IsShort ms
  each_short [] plain short = tt
  each_short (m ∷ ms) plain short =
      let own = short.0 in (
        omega (arith, own, typed_longer m.side m.doc plain.0),
        each_short ms plain.1 short.1,
      )

  text_longer : (ms : List Sent) → AllByRecursion IsPlain ms
      → AllByRecursion IsShort (map typed_sent ms)
      → length (text ms) ≤ length (text (map typed_sent ms))
  text_longer [] plain short = omega arith
  text_longer (m ∷ ms) plain short =
      let t = typed_sent m in
      let most : limits.frame.content ≤ 2147483647 = sound.frame.content_high in
      let own = short.0 in
      let first = record_longer m.side (text_of m.doc) (text_of t.doc)
      (typed_longer m.side m.doc plain.0) (omega (arith, most, own)) in
      omega (
        arith,
        first,
        text_longer ms plain.1 short.1,
        length-append (record_of m) (text ms),
        length-append (record_of t) (text (map typed_sent ms)),
      )

  -- If the text of messages is within the limits, so is that of their documents.
  pub fits_untyped : (ms : List Sent) → AllByRecursion IsPlain ms → Fits limits (map typed_sent ms)
      → Fits limits ms
  fits_untyped ms plain fits =
      let most = fits.whole in
      record {
        each = each_short ms plain fits.each;
        whole = omega (arith, most, text_longer ms plain fits.each);
      }
