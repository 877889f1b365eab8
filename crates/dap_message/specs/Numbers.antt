-- The numbers of the ids of a message.
use Rattle.dap_tree.specs.Doc.{Doc}
use Rattle.dap_tree.specs.Ids.{ids, sorts_of}
use Rattle.dap_tree.specs.declared.sort.Sort.{Sort}
use Rattle.dap_tree.specs.declared.sort.Sort.TheVariants.{Reference}
use Rattle.std.specs.Prelude.{◌^◌, ℤ, pos, negsuc, Bool, true, false, not, ◌&&◌, nat_lt, List, zip}
use Rattle.std.specs.List.{list_all}
use Rattle.std.specs.Ordering.{int_eq}
use Rattle.dap_message.specs.Marks.{is_id_of}

-- A variables reference of 0 refers to nothing (DAP specification, Variable.variablesReference).
abbrev pub is_proper_number : Sort → ℤ → Bool
is_proper_number Reference z = not (int_eq z (pos 0))
is_proper_number s z = true

-- No id of the list is a variables reference of 0.
abbrev pub are_proper : List (Sort × ℤ) → Bool
are_proper is = list_all (λ i. is_proper_number i.0 i.1) is

-- No id of the document is a variables reference of 0.
abbrev pub is_proper : Doc → Bool
is_proper d = are_proper (ids d)

-- The ids of the document with other numbers: the i-th id with the i-th number.
abbrev pub renumbered : Doc → List ℤ → List (Sort × ℤ)
renumbered d ns = zip (sorts_of (ids d)) ns

-- From 1 to 2,147,483,647 (own): the range that the DAP specification requires for variables
-- references.
abbrev pub is_small : ℤ → Bool
is_small (pos n) = nat_lt 0 n && nat_lt n (2 ^ 31)
is_small (negsuc n) = false

-- Each id has a valid number for its kind: a signed 64-bit number, except 0 for a variables
-- reference.
abbrev pub has_id_numbers : Doc → Bool
has_id_numbers d = list_all (λ i. is_id_of i.0 i.1) (ids d)

-- Each id has a number from 1 to 2,147,483,647.
abbrev pub has_small_ids : Doc → Bool
has_small_ids d = list_all (λ i. is_small i.1) (ids d)
