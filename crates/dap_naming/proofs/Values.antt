-- Lemmas about integers: their ids and their names.
use Rattle.std.proofs.Common.{◌≡◌, ℕ, ◌<◌, ◌≤◌, ◌^◌, ℤ, pos, Bool, false, ◌||◌, List, []}
use Rattle.std.proofs.Common.{Option, Some, None, get_or, codes, bytes_eq, refl, ap, arith}
use Rattle.std.specs.{Fmt.decimal}
use Rattle.std.proofs.lemmas.Fmt.{first_decimal}
use Rattle.dap_words.specs.Uuids.{nil_uuid}
use Rattle.dap_tokens.specs.Naming.{IsNumbering, Numbering, named_by, numbered}
use Rattle.dap_tokens.specs.Values.{is_nothing}
use Rattle.dap_naming.specs.Documents.{integer_text, ids_of_whole, named_whole}
use Rattle.dap_naming.proofs.Lists.{by_bool, head_of}
use Rattle.dap_naming.proofs.Additions.{same_bytes}

-- ---- numbers are ids

other_start : (v w : List ℕ) → 48 < get_or v 0 0 → get_or w 0 0 ≤ 48 → bytes_eq v w ≡ false
other_start v w a b =
    by_bool (bytes_eq v w)
    (λ e. let s : get_or v 0 0 ≡ get_or w 0 0 = ap (λ x. get_or x 0 0) (same_bytes v w e) in
    absurd (omega arith))
    (λ e. e)

none_of : (a b c d : Bool) → a ≡ false → b ≡ false → c ≡ false → d ≡ false
    → (a || (b || (c || d))) ≡ false
none_of a b c d p q r s = rw (p, q, r, s) refl

pub decimal_is_some : (n : ℕ) → 0 < n → n < 2 ^ 64 → is_nothing (decimal n) ≡ false
decimal_is_some n a b =
    let f = first_decimal n a b in
    none_of _ _ _ _ (other_start (decimal n) [] f (omega arith))
    (other_start (decimal n) (codes "0") f (omega arith))
    (other_start (decimal n) (codes "0x0") f (omega arith))
    (other_start (decimal n) nil_uuid f (omega arith))

-- ---- integers

pub whole_read : (o : Option (List ℕ)) (number : Numbering) (z : ℤ) → IsNumbering number
    → ids_of_whole o (named_whole o number z) ≡ named_by number (ids_of_whole o z)
whole_read None number z n = refl
whole_read (Some label) number z n =
    let m = n label (integer_text z) in
    by_bool (is_nothing (integer_text z))
    (λ e. rw (e, e) refl)
    (λ e. let f = decimal_is_some (number label (integer_text z)) m.0 m.1 in rw (e, f) refl)

pub whole_twice : (o : Option (List ℕ)) (number other : Numbering) (z : ℤ) → IsNumbering number
    → named_whole o other (named_whole o number z)
    ≡ named_whole o (λ label v. other label (decimal (number label v))) z
whole_twice None number other z n = refl
whole_twice (Some label) number other z n =
    let m = n label (integer_text z) in
    by_bool (is_nothing (integer_text z))
    (λ e. rw (e, e) refl)
    (λ e. let f = decimal_is_some (number label (integer_text z)) m.0 m.1 in rw (e, f) refl)

pub whole_equal : (o : Option (List ℕ)) (number other : Numbering) (z y : ℤ)
    → named_whole o (λ label v. 1) z ≡ named_whole o (λ label v. 1) y
    → numbered number (ids_of_whole o z) ≡ numbered other (ids_of_whole o y)
    → named_whole o number z ≡ named_whole o other y
whole_equal None number other z y h k = h
whole_equal (Some label) number other z y h k =
    by_bool (is_nothing (integer_text z))
    (λ e. by_bool (is_nothing (integer_text y))
    (λ f. let shape = rw (e, f) at h in rw (e, f) shape)
    (λ f. let counts = rw (e, f) at k in absurd cc))
    (λ e. by_bool (is_nothing (integer_text y))
    (λ f. let counts = rw (e, f) at k in absurd cc)
    (λ f. let counts = rw (e, f) at k in
    rw (e, f) (ap (λ (t : List ℕ × ℕ). pos t.1) (head_of counts))))
