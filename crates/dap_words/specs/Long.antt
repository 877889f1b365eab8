-- The action `long` on a text: it replaces each run of six or more hexadecimal digits that has a
-- decimal digit by one `0`.
use Rattle.std.specs.Prelude.{◌≡◌, ℕ, Bool, false, cond, ◌&&◌, List, [], ◌∷◌, ◌++◌}
use Rattle.std.specs.Prelude.{length, nat_le}
use Rattle.std.specs.Char.{is_ascii_digit, is_ascii_hexdigit}
use Rattle.dap_words.specs.Runs.{some_of, IsRun}

-- ---- as a relation

-- There are six or more hexadecimal digits, and a decimal digit is among them.
abbrev pub is_long : List ℕ → Bool
is_long run = nat_le 6 (length run) && some_of is_ascii_digit run

-- The result for one run of hexadecimal digits (own).
abbrev pub shortened : List ℕ → List ℕ
shortened run = cond (is_long run) (48 ∷ []) run

-- t is s with each maximal run of hexadecimal digits shortened, and every other byte unchanged
-- (own). The bytes before and after a run do not matter: the run in `ghost1a2b3c4` is `1a2b3c4`.
pub data AreLongOf : List ℕ → List ℕ → Type 0 where
  at_end : AreLongOf [] []
  other : {b : ℕ} {s t : List ℕ} → is_ascii_hexdigit b ≡ false → AreLongOf s t
      → AreLongOf (b ∷ s) (b ∷ t)
  hex_run : {u s t : List ℕ} → (digits : List ℕ) → u ≡ digits ++ s
      → IsRun is_ascii_hexdigit digits s → AreLongOf s t → AreLongOf u (shortened digits ++ t)

-- ---- the same as a function

-- The result for the hexadecimal digits `run` and the text after them.
abbrev pub long_from : List ℕ → List ℕ → List ℕ
long_from run [] = shortened run
long_from run (b ∷ s) =
    cond (is_ascii_hexdigit b) (long_from (run ++ b ∷ []) s) (shortened run ++ b ∷ long_from [] s)

abbrev pub long : List ℕ → List ℕ
long = long_from []
