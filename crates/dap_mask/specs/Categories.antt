-- Rules that drop the events of one category or join output, and the changes that they exclude.
use Rattle.std.specs.Prelude.{ℕ, Bool, true, not, ◌&&◌, List, [], ◌∷◌, map, Option, Some, None}
use Rattle.std.specs.{Prelude.{option_map, bytes_eq, string_bytes, codes, is_some}, List.list_any}
use Rattle.dap_tree.specs.Doc.{Doc}
use Rattle.dap_profile.specs.declared.profile.Kind.TheVariants.{Event}
use Rattle.dap_mask.specs.Rules.{Rule, has_name, has_category, same_kind, same_name, same_place}
use Rattle.dap_mask.specs.Rules.{share_name, plain_place_of, category_place}
use Rattle.dap_mask.specs.declared.categories.CategoryRule.{CategoryRule as ReadCategoryRule}
use Rattle.dap_mask.specs.declared.joining.Joining.{Joining}

-- The events of one name (`None` is any name) and one category.
pub record CategoryRule : Type 0 where
  pub name : Option (List ℕ)
  pub category : List ℕ

-- ---- the events that are dropped

-- The event has the name and the category of the rule (own).
abbrev pub drops : CategoryRule → Doc → Bool
drops c d = has_name Event c.name d && has_category (Some c.category) d

-- The event has the name and the category of one of these rules.
abbrev pub is_dropped_by : List CategoryRule → Doc → Bool
is_dropped_by cs d = list_any (λ c. drops c d) cs

-- ---- the rules that a mask may contain

-- The two rules have the same name and the same category.
abbrev pub same_category : CategoryRule → CategoryRule → Bool
same_category c e = same_name c.name e.name && bytes_eq c.category e.category

-- The rule is one of these.
abbrev pub is_category_among : CategoryRule → List CategoryRule → Bool
is_category_among c cs = list_any (same_category c) cs

-- The change may give events of this name (`None` is any name) another category.
abbrev pub moves_events : Rule → Option (List ℕ) → Bool
moves_events r n = same_place (plain_place_of r) category_place
    && (same_kind r.kind Event && share_name r.name n)

-- The change may give an event the category by which the other rule drops it (own). If both were
-- rules of one mask, masking twice could drop an event that masking once keeps.
abbrev pub moves : Rule → CategoryRule → Bool
moves r c = moves_events r c.name

-- The change may give an event a category by which one of these rules drops it.
abbrev pub moves_one_of : Rule → List CategoryRule → Bool
moves_one_of r cs = list_any (moves r) cs

-- One of these changes may give an event the category by which the rule drops it.
abbrev pub is_moved_by : List Rule → CategoryRule → Bool
is_moved_by rs c = list_any (λ r. moves r c) rs

-- No change may give an event a category by which a rule drops it.
abbrev pub keep_categories : List Rule → List CategoryRule → Bool
keep_categories rs [] = true
keep_categories rs (c ∷ cs) = not (is_moved_by rs c) && keep_categories rs cs

-- ---- changes beside a rule that joins output

-- The name of the events that are joined (DAP specification, OutputEvent).
abbrev pub output_name : List ℕ
output_name = codes "output"

-- The change may give an `output` event another category (own). Output is joined category by
-- category, before changes apply. So with this change, joining and masking twice could join events
-- that joining and masking once keeps apart.
abbrev pub moves_output : Rule → Bool
moves_output r = moves_events r (Some output_name)

-- One of these changes may give an `output` event another category.
abbrev pub is_output_moved_by : List Rule → Bool
is_output_moved_by rs = list_any moves_output rs

-- Output is joined, and the change may give an `output` event another category.
abbrev pub moves_joined : Rule → Option Joining → Bool
moves_joined r j = is_some j && moves_output r

-- If output is joined, no change may give an `output` event another category.
abbrev pub keep_output : List Rule → Option Joining → Bool
keep_output rs None = true
keep_output rs (Some j) = not (is_output_moved_by rs)

-- ---- the models of the program's types

abbrev pub category_of : ReadCategoryRule → CategoryRule
category_of c = record {
  name = option_map string_bytes c.name;
  category = string_bytes c.category;
}

abbrev pub categories_of : List ReadCategoryRule → List CategoryRule
categories_of cs = map category_of cs
