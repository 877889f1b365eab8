-- If a text is UTF-8, it remains UTF-8 when only its ASCII bytes are changed or removed.
use Rattle.std.proofs.Common.{◌≡◌, inl, inr, ℕ, ◌<◌, true, false, leb, ◌==◌, List, [], ◌∷◌, IsUtf8}
use Rattle.std.proofs.Common.{refl, sym, ap, arith, lit<}
use Rattle.std.proofs.lemmas.Bool.{leb-true, eqb-true}
use Rattle.std.proofs.lemmas.Str.{IsUtf8-nil}
use Rattle.std.specs.Char.{is_ascii_digit, is_ascii_hexdigit}
use Rattle.dap_tree.proofs.Booleans.{and_left, and_right}
use Rattle.dap_message.proofs.Edits.{by_bool}
use Rattle.dap_words.proofs.Utf8.{Edited, utf8_edited, ascii_one, hexdigit_low}
use Rattle.dap_mask.specs.Texts.{digits_from, digits, is_x, goes_on_as_hex, begins_hex, hex}
use Rattle.dap_mask.specs.Texts.{behind_zero, in_number}
use Rattle.dap_mask.proofs.Squeezed.{begins_zero}

-- ---- digits

digit_low : (b : ℕ) → is_ascii_digit b ≡ true → b < 128
digit_low b h = let below = leb-true b 57 (and_right (leb 48 b) (leb b 57) h) in
    omega (arith, below)

mutual
  digits_edited : (s : List ℕ) → Edited s (digits_from false s)
  digits_edited [] = refl
  digits_edited (b ∷ s) = by_bool (is_ascii_digit b)
      (λ h. rw h (inr (
        digit_low b h,
        (
          digits_from true s,
          48 ∷ [],
          ascii_one 48 (lit< tt),
          refl,
          inside_edited s,
        ),
      )))
      (λ h. rw h (inl (digits_from false s, refl, digits_edited s)))

  inside_edited : (s : List ℕ) → Edited s (digits_from true s)
  inside_edited [] = refl
  inside_edited (b ∷ s) = by_bool (is_ascii_digit b)
      (λ h. rw h (inr (digit_low b h, (digits_from true s, [], IsUtf8-nil, refl, inside_edited s))))
      (λ h. rw h (inl (digits_from false s, refl, digits_edited s)))

pub digits_utf8 : (s : List ℕ) → IsUtf8 s → IsUtf8 (digits s)
digits_utf8 s u = utf8_edited s (digits s) u (digits_edited s)

-- ---- hexadecimal numbers

x_low : (x : ℕ) → is_x x ≡ true → x < 128
x_low x h = by_bool (x == 120)
    (λ k. let is = eqb-true x 120 k in omega (arith, is))
    (λ k. let is = eqb-true x 88 (rw k at h) in omega (arith, is))

mutual
  hex_edited : (s : List ℕ) → Edited s (hex s)
  hex_edited [] = refl
  hex_edited (b ∷ s) = by_bool (begins_hex b s)
      (λ h. rw h (number_edited b s (begins_zero b s h) (and_right (b == 48) (goes_on_as_hex s) h)))
      (λ h. rw h (inl (hex s, refl, hex_edited s)))

  number_edited : (b : ℕ) (s : List ℕ) → b ≡ 48 → goes_on_as_hex s ≡ true
      → Edited (b ∷ s) (48 ∷ behind_zero s)
  number_edited b [] e h = cc
  number_edited b (x ∷ []) e h = cc
  number_edited b (x ∷ d ∷ s) e h =
      inl (
        120 ∷ 48 ∷ in_number s,
        ap (λ n. n ∷ 120 ∷ 48 ∷ in_number s) (sym e),
        inr (
          x_low x (and_left (is_x x) (is_ascii_hexdigit d) h),
          (
            48 ∷ in_number s,
            120 ∷ [],
            ascii_one 120 (lit< tt),
            refl,
            inr (
              hexdigit_low d (and_right (is_x x) (is_ascii_hexdigit d) h),
              (
                in_number s,
                48
                    ∷ [],
                ascii_one 48 (lit< tt),
                refl,
                in_edited s,
              ),
            ),
          ),
        ),
      )

  in_edited : (s : List ℕ) → Edited s (in_number s)
  in_edited [] = refl
  in_edited (b ∷ s) = by_bool (is_ascii_hexdigit b)
      (λ h. rw h (inr (hexdigit_low b h, (in_number s, [], IsUtf8-nil, refl, in_edited s))))
      (λ h. rw h (inl (hex s, refl, hex_edited s)))

pub hex_utf8 : (s : List ℕ) → IsUtf8 s → IsUtf8 (hex s)
hex_utf8 s u = utf8_edited s (hex s) u (hex_edited s)
