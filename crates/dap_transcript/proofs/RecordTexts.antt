-- The header and the content of a record.
use Rattle.std.proofs.Common.{◌≡◌, ℕ, zero, suc, ◌+◌, ◌-◌, ◌/◌, ◌%◌, ◌<◌, ◌≤◌, ◌==◌, Bool, true}
use Rattle.std.proofs.Common.{false, cond, not, List, [], ◌∷◌, ◌++◌, Some, length, take, drop}
use Rattle.std.proofs.Common.{refl, sym, ap, ◌∙◌, append_assoc, arith, codes, length-append}
use Rattle.std.proofs.Common.{ne_eqb}
use Rattle.std.specs.List.{list_all, position_or_len}
use Rattle.std.specs.Prelude.{decimal, position, nat_lt}
use Rattle.std.specs.Fmt.{digit_glyph, digits, digits_onto}
use Rattle.std.proofs.Math.Seq.{drop-append_seam, take-append_seam}
use Rattle.std.proofs.lemmas.List.{take_all}
use Rattle.std.proofs.lemmas.Bool.{lt-ltb}
use Rattle.std.proofs.lemmas.Option.{cond_some}
use Rattle.dap_tree.proofs.Booleans.{and_both, and_left, and_right}
use Rattle.dap_tree.specs.declared.side.Side.{Side}
use Rattle.dap_tree.specs.declared.side.Side.TheVariants.{Client, Adapter}
use Rattle.dap_recording.specs.{Marker.marker, Recording.record_text}

-- ---- the first brace

abbrev pub is_brace : ℕ → Bool
is_brace b = b == 123

abbrev pub has_no_brace : List ℕ → Bool
has_no_brace s = list_all (λ b. not (b == 123)) s

passed : (t : Bool) (n m : ℕ) → not t ≡ true → n ≡ m → cond (not t) (1 + n) 0 ≡ suc m
passed true n m h is = absurd cc
passed false n m h is = omega (arith, is)

brace_place : (front rest : List ℕ) → has_no_brace front ≡ true
    → position_or_len is_brace (front ++ 123 ∷ rest) ≡ length front
brace_place [] rest h = refl
brace_place (b ∷ front) rest h =
    passed (b == 123) (position_or_len is_brace (front ++ 123 ∷ rest)) (length front)
    (and_left (not (b == 123)) (has_no_brace front) h)
    (brace_place front rest (and_right (not (b == 123)) (has_no_brace front) h))

-- The first brace is at this place.
pub brace_found : (s front rest : List ℕ) (at : ℕ) → Some at ≡ position is_brace s
    → has_no_brace front ≡ true → s ≡ front ++ 123 ∷ rest → at ≡ length front
brace_found s front rest at found none is =
    sym (cond_some (nat_lt (position_or_len is_brace s) (length s)) (position_or_len is_brace s) at
    (sym found)).1
    ∙ ap (position_or_len is_brace) is ∙ brace_place front rest none

pub rest_of : (s front rest : List ℕ) (n at : ℕ) → s ≡ front ++ rest → at ≡ length front
    → length s ≤ n + at → take n (drop at s) ≡ rest
rest_of s front rest n at is place long =
    let own : drop at s ≡ rest =
    ap (λ k. drop k s) place ∙ ap (drop (length front)) is ∙ drop-append_seam front rest in
    let total : length s ≡ length front + length rest =
    ap length is ∙ length-append front rest in
    ap (take n) own ∙ take_all n rest (omega (arith, total, place, long))

pub front_of : (s front rest : List ℕ) → s ≡ front ++ rest
    → take (length s - length rest) s ≡ front
front_of s front rest is =
    let total : length s ≡ length front + length rest =
    ap length is ∙ length-append front rest in
    let n : length s - length rest ≡ length front = omega (arith, total) in
    ap (λ k. take k s) n ∙ ap (take (length front)) is ∙ take-append_seam front rest

-- ---- the header

no_brace-append : (s t : List ℕ) → has_no_brace s ≡ true → has_no_brace t ≡ true
    → has_no_brace (s ++ t) ≡ true
no_brace-append [] t h k = k
no_brace-append (b ∷ s) t h k =
    and_both _ _ (and_left (not (b == 123)) (has_no_brace s) h)
    (no_brace-append s t (and_right (not (b == 123)) (has_no_brace s) h) k)

glyph : (d : ℕ) → d < 10 → not (digit_glyph false d == 123) ≡ true
glyph d small =
    let is : digit_glyph false d ≡ 48 + d =
    ap (λ t. cond t (48 + d) (87 + d)) (lt-ltb d 10 small) in
    ap (λ b. not (b == 123)) is
    ∙ ap not (ne_eqb (48 + d) 123 (λ e. omega (arith, e)))

more_digits : (t : Bool) (s more : List ℕ) → has_no_brace s ≡ true → has_no_brace more ≡ true
    → has_no_brace (cond t s more) ≡ true
more_digits true s more h k = h
more_digits false s more h k = k

digits_no_brace : (k n : ℕ) (acc : List ℕ) → has_no_brace acc ≡ true
    → has_no_brace (digits_onto k 10 false n acc) ≡ true
digits_no_brace zero n acc h = h
digits_no_brace (suc k) n acc h =
    let next : has_no_brace (digit_glyph false (n % 10) ∷ acc) ≡ true =
    and_both _ _ (glyph (n % 10) (omega arith)) h in
    more_digits (n / 10 == 0) (digit_glyph false (n % 10) ∷ acc)
    (digits_onto k 10 false (n / 10) (digit_glyph false (n % 10) ∷ acc)) next
    (digits_no_brace k (n / 10) (digit_glyph false (n % 10) ∷ acc) next)

decimal_no_brace : (n : ℕ) → has_no_brace (decimal n) ≡ true
unfolding digits
decimal_no_brace n = digits_no_brace 64 n [] refl

-- What comes before the length of a content, and between the length and the content.
abbrev pub start : Side → List ℕ
start side = marker side ∷ codes "Content-Length: "

abbrev pub middle : ℕ → List ℕ
middle n = decimal n ++ codes "\r\n\r\n"

pub middle_no_brace : (n : ℕ) → has_no_brace (middle n) ≡ true
middle_no_brace n =
    no_brace-append (decimal n) (codes "\r\n\r\n") (decimal_no_brace n) refl

pub record_parts : (side : Side) (content more : List ℕ)
    → record_text side content ++ more
    ≡ start side ++ (middle (length content) ++ (content ++ 10 ∷ more))
record_parts side content more =
    let n = length content in
    let name = codes "Content-Length: " in
    let blank = codes "\r\n\r\n" in
    append_assoc (marker side ∷ (((name ++ decimal n) ++ blank) ++ content)) (10 ∷ []) more
    ∙ ap (λ t. marker side ∷ t)
    (append_assoc ((name ++ decimal n) ++ blank) content (10 ∷ more)
    ∙ ap (λ t. t ++ (content ++ 10 ∷ more)) (append_assoc name (decimal n) blank)
    ∙ append_assoc name (middle n) (content ++ 10 ∷ more))

pub one_side : (a b : Side) → marker a ≡ marker b → a ≡ b
one_side Client Client h = refl
one_side Client Adapter h = absurd (omega (arith, h))
one_side Adapter Client h = absurd (omega (arith, h))
one_side Adapter Adapter h = refl
