-- The results of `digits` and `hex`, as relations. The crate of the actions on texts defines the
-- functions.
use Rattle.std.specs.Prelude.{◌≡◌, ℕ, Bool, true, false, List, [], ◌∷◌, ◌++◌}
use Rattle.std.specs.Char.{is_ascii_digit, is_ascii_hexdigit}
pub use Rattle.dap_words.specs.Runs.{all_of, begins_with, IsRun}
pub use Rattle.dap_words.specs.Digits.{digits_from, digits, is_x, goes_on_as_hex, begins_hex, hex}
pub use Rattle.dap_words.specs.Digits.{behind_zero, behind_x, in_number}

-- t is s with each run of digits replaced by one 0, and every other byte unchanged (own).
pub data AreDigitsOf : List ℕ → List ℕ → Type 0 where
  at_end : AreDigitsOf [] []
  other : {b : ℕ} {s t : List ℕ} → is_ascii_digit b ≡ false → AreDigitsOf s t
      → AreDigitsOf (b ∷ s) (b ∷ t)
  run : {u s t : List ℕ} → (digits : List ℕ) → u ≡ digits ++ s → IsRun is_ascii_digit digits s
      → AreDigitsOf s t → AreDigitsOf u (48 ∷ t)

-- t is s with each hexadecimal number replaced by `0x0`, from the left, and every other byte
-- unchanged (own).
pub data IsHexOf : List ℕ → List ℕ → Type 0 where
  at_end : IsHexOf [] []
  other : {b : ℕ} {s t : List ℕ} → begins_hex b s ≡ false → IsHexOf s t → IsHexOf (b ∷ s) (b ∷ t)
  number : {u s t : List ℕ} → (x : ℕ) (digits : List ℕ) → u ≡ 48 ∷ x ∷ digits ++ s → is_x x ≡ true
      → IsRun is_ascii_hexdigit digits s → IsHexOf s t → IsHexOf u (48 ∷ 120 ∷ 48 ∷ t)

-- For private clauses: the text starts with a hexadecimal number.
abbrev pub slice_begins_hex : List ℕ → Bool
slice_begins_hex [] = false
slice_begins_hex (b ∷ s) = begins_hex b s
