-- The numbers of declared ids. An id is a label and the text of a value. The values of each label
-- are numbered from 1, in the order of their first appearance.
use Rattle.std.specs.Prelude.{◌≡◌, ℕ, suc, cond, List, [], ◌∷◌, ◌++◌, map, bytes_eq}
use Rattle.std.specs.Prelude.{length, ◌<◌, ◌^◌}
use Rattle.std.specs.List.{list_any, position_or_len}
use Rattle.dap_tokens.specs.Naming.{Id, numbered, named_by}

-- The values of a label, in order.
abbrev pub values : List ℕ → List Id → List (List ℕ)
values label [] = []
values label (i ∷ is) = cond (bytes_eq label i.0) (i.1 ∷ values label is) (values label is)

-- Appends the value to the list, unless the list contains it.
abbrev pub add : List (List ℕ) → List ℕ → List (List ℕ)
add vs v = cond (list_any (bytes_eq v) vs) vs (vs ++ v ∷ [])

abbrev pub add_all : List (List ℕ) → List (List ℕ) → List (List ℕ)
add_all vs [] = vs
add_all vs (w ∷ ws) = add_all (add vs w) ws

-- The distinct values of a label, in the order of their first appearance (own).
abbrev pub distinct : List ℕ → List Id → List (List ℕ)
distinct label is = add_all [] (values label is)

-- The number of a value of a label (own): its position, from 1, among the distinct values of the
-- label, or the next number if it is not among them.
abbrev pub number : List Id → List ℕ → List ℕ → ℕ
number is label v = suc (position_or_len (bytes_eq v) (distinct label is))

-- The labels of the ids, and the numbers of their values among these ids.
abbrev pub numbers : List Id → List (List ℕ × ℕ)
numbers is = numbered (number is) is

-- The ids with each value replaced by the value that `to` gives.
abbrev pub renamed : (List ℕ → List ℕ → List ℕ) → List Id → List Id
renamed to is = map (λ i. (i.0, to i.0 i.1)) is

abbrev pub renumbered : List Id → List Id
renumbered is = named_by (number is) is

-- A one-to-one renaming of the values of each label turns the ids of one list into those of the
-- other (own): one function leads there, and one leads back.
pub record AreRenamed (is js : List Id) : Type 0 where
  pub there : List ℕ → List ℕ → List ℕ
  pub back : List ℕ → List ℕ → List ℕ
  pub leads_there : renamed there is ≡ js
  pub leads_back : renamed back js ≡ is

-- Each label has fewer than 2^63 values, as each list in memory.
abbrev pub AreCountable : List Id → Type 0
AreCountable is = (label : List ℕ) → length (distinct label is) < 2 ^ 63
