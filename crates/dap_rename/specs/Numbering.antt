-- Occurrences of ids and their canonical numbers, for any type of id classes. An occurrence is a
-- class and a number. A list of occurrences is in the order of the text.
use Rattle.std.specs.Prelude.{◌≡◌, suc, ℤ, pos, Bool, false, cond, List, [], ◌∷◌, ◌++◌, length}
use Rattle.std.specs.List.{list_any, position_or_len}
use Rattle.std.specs.Ordering.{int_eq}

-- Appends x to the list, unless the list contains it (own).
abbrev pub add : List ℤ → ℤ → List ℤ
add t x = cond (list_any (int_eq x) t) t (t ++ x ∷ [])

-- Adds each of these numbers to the list, one after another (own).
abbrev pub add_all : List ℤ → List ℤ → List ℤ
add_all t [] = t
add_all t (x ∷ xs) = add_all (add t x) xs

module _ {K : Type 0} (same : K → K → Bool) where
  -- The numbers of a class, in order (own).
  abbrev pub numbers : K → List (K × ℤ) → List ℤ
  numbers c [] = []
  numbers c (o ∷ os) = cond (same c o.0) (o.1 ∷ numbers c os) (numbers c os)

  -- The distinct numbers of a class, in the order of their first occurrence (own).
  unfoldable pub table : K → List (K × ℤ) → List ℤ
  table c os = add_all [] (numbers c os)

  -- Each number either occurred earlier in its class, or is one more than the count of distinct
  -- earlier numbers of its class (own).
  unfoldable pub IsFresh : List (K × ℤ) → Type 0
  IsFresh os =
      (before after : List (K × ℤ)) (c : K) (x : ℤ) → os ≡ before ++ (c, x) ∷ after →
      list_any (int_eq x) (numbers c before) ≡ false → x ≡ pos (suc (length (table c before)))

  -- The canonical number of an occurrence after others (own): the position, from 1, that its number
  -- has among the distinct numbers of its class, or would be assigned if it is new.
  unfoldable pub name : List (K × ℤ) → K × ℤ → ℤ
  name before o = pos (suc (position_or_len (int_eq o.1) (table o.0 before)))

  -- Replaces each number by its canonical number, after the occurrences `before` (own).
  abbrev pub named : List (K × ℤ) → List (K × ℤ) → List (K × ℤ)
  named before [] = []
  named before (o ∷ os) = (o.0, name before o) ∷ named (before ++ o ∷ []) os
