-- The model of an interning table: a list of distinct numbers. The canonical number of a number is
-- its position, from 1.
use Rattle.std.specs.Prelude.{◌≡◌, ℕ, suc, ◌<◌, ℤ, pos, Bool, List, length, slice_index_or}
use Rattle.std.specs.List.{list_any, position_or_len}
use Rattle.std.specs.Ordering.{int_eq}

-- The list contains the number.
abbrev pub has : List ℤ → ℤ → Bool
has t x = list_any (int_eq x) t

-- The position of a number, from 1, or the position that it would be assigned if it is new (own).
abbrev pub place : List ℤ → ℤ → ℤ
place t x = pos (suc (position_or_len (int_eq x) t))

-- No two elements are equal.
abbrev pub AllDiffer : List ℤ → Type 0
AllDiffer t = (i j : ℕ) → i < j → j < length t
    → slice_index_or t i (pos 0) ≡ slice_index_or t j (pos 0) → ⊥
