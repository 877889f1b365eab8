-- The relations for `digits` and `hex` agree with the functions.
use Rattle.std.proofs.Common.{◌≡◌, ℕ, ◌==◌, Bool, true, false, List, [], ◌∷◌, ◌++◌}
use Rattle.std.proofs.Common.{refl, sym, ap, ap₂, ◌∙◌, subst, true≢false}
use Rattle.std.specs.Char.{is_ascii_digit, is_ascii_hexdigit}
use Rattle.dap_message.proofs.Edits.{by_bool}
use Rattle.dap_tree.proofs.Booleans.{and_left, and_right, and_both}
use Rattle.dap_mask.specs.Texts.{all_of, begins_with, IsRun, AreDigitsOf, at_end, other, run}
use Rattle.dap_mask.specs.Texts.{IsHexOf, number, is_x, goes_on_as_hex, begins_hex, digits_from}
use Rattle.dap_mask.specs.Texts.{digits, hex, behind_zero, in_number}
use Rattle.dap_mask.proofs.Squeezed.{begins_zero}

-- ---- runs

-- the end of the current run of bytes of a class, and the relation for the rest
pub record RunEnd (class : ℕ → Bool) (Said : List ℕ → List ℕ → Type 0) (s t : List ℕ)
    : Type 0 where
  pub digits : List ℕ
  pub rest : List ℕ
  pub whole : s ≡ digits ++ rest
  pub all : all_of class digits ≡ true
  pub ends : begins_with class rest ≡ false
  pub said : Said rest t

-- the run is empty
no_more : {class : ℕ → Bool} {Said : List ℕ → List ℕ → Type 0} {t : List ℕ} (s : List ℕ)
    → begins_with class s ≡ false → Said s t → RunEnd class Said s t
no_more s h said =
    record { digits = []; rest = s; whole = refl; all = refl; ends = h; said = said }

-- one more byte precedes the run
one_more : {class : ℕ → Bool} {Said : List ℕ → List ℕ → Type 0} {s t : List ℕ} (b : ℕ)
    → class b ≡ true → RunEnd class Said s t → RunEnd class Said (b ∷ s) t
one_more b h e = record {
  digits = b ∷ e.digits;
  rest = e.rest;
  whole = ap (λ u. b ∷ u) e.whole;
  all = and_both _ _ h e.all;
  ends = e.ends;
  said = e.said;
}

-- the run with the byte before it
whole_run : {class : ℕ → Bool} {Said : List ℕ → List ℕ → Type 0} {s t : List ℕ} {b : ℕ}
    → class b ≡ true → (e : RunEnd class Said s t) → IsRun class (b ∷ e.digits) e.rest
whole_run h e = record { some = h; all = and_both _ _ h e.all; ends = e.ends }

-- ---- digits

-- after a digit, the result for a text that does not start with a digit is the usual one
outside_here : (s : List ℕ) → begins_with is_ascii_digit s ≡ false → digits_from true s
    ≡ digits_from false s
outside_here [] h = refl
outside_here (b ∷ s) h = rw h refl

run_gone : (ds s : List ℕ) → all_of is_ascii_digit ds ≡ true → digits_from true (ds ++ s)
    ≡ digits_from true s
run_gone [] s h = refl
run_gone (b ∷ ds) s h = rw (and_left (is_ascii_digit b) (all_of is_ascii_digit ds) h)
    (run_gone ds s (and_right (is_ascii_digit b) (all_of is_ascii_digit ds) h))

run_squeezed : (ds s : List ℕ) → IsRun is_ascii_digit ds s → digits (ds ++ s) ≡ 48 ∷ digits s
run_squeezed [] s h = let no = h.some in cc
run_squeezed (b ∷ ds) s h =
    rw h.some (ap (λ t. 48 ∷ t)
    (run_gone ds s (and_right (is_ascii_digit b) (all_of is_ascii_digit ds) h.all)
    ∙ outside_here s h.ends))

digits_from_said : {s t : List ℕ} → AreDigitsOf s t → t ≡ digits s
digits_from_said at_end = refl
digits_from_said (other {b} {s} {t} h r) = rw h (ap (λ u. b ∷ u) (digits_from_said r))
digits_from_said (run {u} {s} {t} ds e h r) = ap (λ x. 48 ∷ x) (digits_from_said r)
    ∙ sym (run_squeezed ds s h) ∙ ap digits (sym e)

mutual
  digits_said : (s : List ℕ) → AreDigitsOf s (digits_from false s)
  digits_said [] = at_end
  digits_said (b ∷ s) = by_bool (is_ascii_digit b)
      (λ h. let e = digits_end s in
      rw h (run (b ∷ e.digits) (ap (λ u. b ∷ u) e.whole) (whole_run h e) e.said))
      (λ h. rw h (other h (digits_said s)))

  digits_end : (s : List ℕ) → RunEnd is_ascii_digit AreDigitsOf s (digits_from true s)
  digits_end [] = no_more [] refl at_end
  digits_end (b ∷ s) = by_bool (is_ascii_digit b) (λ h. rw h (one_more b h (digits_end s)))
      (λ h. rw h (no_more (b ∷ s) h (other h (digits_said s))))

pub digits_are : (s t : List ℕ) → (AreDigitsOf s t → t ≡ digits s)
    × (t ≡ digits s → AreDigitsOf s t)
digits_are s t = (digits_from_said, λ e. subst (AreDigitsOf s) (sym e) (digits_said s))

-- ---- hexadecimal numbers

hexdigit_gone : (ds s : List ℕ) → all_of is_ascii_hexdigit ds ≡ true → in_number (ds ++ s)
    ≡ in_number s
hexdigit_gone [] s h = refl
hexdigit_gone (b ∷ ds) s h = rw (and_left (is_ascii_hexdigit b) (all_of is_ascii_hexdigit ds) h)
    (hexdigit_gone ds s (and_right (is_ascii_hexdigit b) (all_of is_ascii_hexdigit ds) h))

begins_no : (b : ℕ) (s : List ℕ) → is_ascii_hexdigit b ≡ false → begins_hex b s ≡ false
begins_no b s h = by_bool (begins_hex b s)
    (λ k. absurd (true≢false (ap is_ascii_hexdigit (sym (begins_zero b s k)) ∙ h))) (λ k. k)

-- after a number, the result for a text that does not continue the number is the usual one
outside_number : (s : List ℕ) → begins_with is_ascii_hexdigit s ≡ false → in_number s ≡ hex s
outside_number [] h = refl
outside_number (b ∷ s) h = rw (h, begins_no b s h) refl

hex_squeezed : (x : ℕ) (ds s : List ℕ) → is_x x ≡ true → IsRun is_ascii_hexdigit ds s
    → hex (48 ∷ x ∷ ds ++ s) ≡ 48 ∷ 120 ∷ 48 ∷ hex s
hex_squeezed x [] s k h = let no = h.some in cc
hex_squeezed x (d ∷ ds) s k h =
    rw (k, h.some) (ap (λ t. 48 ∷ 120 ∷ 48 ∷ t)
    (hexdigit_gone ds s (and_right (is_ascii_hexdigit d) (all_of is_ascii_hexdigit ds) h.all)
    ∙ outside_number s h.ends))

hex_from_said : {s t : List ℕ} → IsHexOf s t → t ≡ hex s
hex_from_said at_end = refl
hex_from_said (other {b} {s} {t} h r) = rw h (ap (λ u. b ∷ u) (hex_from_said r))
hex_from_said (number {u} {s} {t} x ds e k h r) = ap (λ y. 48 ∷ 120 ∷ 48 ∷ y) (hex_from_said r)
    ∙ sym (hex_squeezed x ds s k h) ∙ ap hex (sym e)

mutual
  hex_said : (s : List ℕ) → IsHexOf s (hex s)
  hex_said [] = at_end
  hex_said (b ∷ s) = by_bool (begins_hex b s)
      (λ h. rw h (number_said b s (begins_zero b s h) (and_right (b == 48) (goes_on_as_hex s) h)))
      (λ h. rw h (other h (hex_said s)))

  number_said : (b : ℕ) (s : List ℕ) → b ≡ 48 → goes_on_as_hex s ≡ true
      → IsHexOf (b ∷ s) (48 ∷ behind_zero s)
  number_said b [] e h = cc
  number_said b (x ∷ []) e h = cc
  number_said b (x ∷ d ∷ s) e h =
      let n = number_end s in
      number x (d ∷ n.digits) (ap₂ (λ y u. y ∷ x ∷ d ∷ u) e n.whole)
      (and_left (is_x x) (is_ascii_hexdigit d) h)
      (whole_run (and_right (is_x x) (is_ascii_hexdigit d) h) n) n.said

  number_end : (s : List ℕ) → RunEnd is_ascii_hexdigit IsHexOf s (in_number s)
  number_end [] = no_more [] refl at_end
  number_end (b ∷ s) = by_bool (is_ascii_hexdigit b) (λ h. rw h (one_more b h (number_end s)))
      (λ h. rw h (no_more (b ∷ s) h (other (begins_no b s h) (hex_said s))))

pub hex_is : (s t : List ℕ) → (IsHexOf s t → t ≡ hex s) × (t ≡ hex s → IsHexOf s t)
hex_is s t = (hex_from_said, λ e. subst (IsHexOf s) (sym e) (hex_said s))
