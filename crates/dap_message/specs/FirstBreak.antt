-- The first value that violates a row, and the array element that contains it.
use Rattle.dap_tree.specs.Doc.{Doc, get}
use Rattle.std.specs.Prelude.{ℕ, ◌+◌, Bool, cond, List, [], ◌∷◌, ◌++◌, map, Option, Some, None}
use Rattle.std.specs.Prelude.{option_map}
use Rattle.std.specs.Option.{is_some, option_map_or}
use Rattle.dap_tree.specs.View.{view}
use Rattle.dap_profile.specs.PlaceSteps.{PlaceStep, named, each}
use Rattle.dap_profile.specs.declared.profile.Want.{Want}
use Rattle.dap_message.specs.Places.{is_object, list_of, parts_at}
use Rattle.dap_message.specs.Rows.{cause_against}
use Rattle.dap_message.specs.declared.broken_rows.Break.{Break}

-- A value at a row's path, or `None` for an absent member. The number is the index of the array
-- element that is or contains the value, or 0 if the path leads into no array.
abbrev pub Found : Type 0
Found = ℕ × Option Doc

-- The values at a path in each of these elements, of which the first one has this index.
abbrev pub found_in : List PlaceStep → ℕ → List Doc → List Found
found_in ps i [] = []
found_in ps i (d ∷ ds) = map (λ v. (i, v)) (parts_at ps d) ++ found_in ps (i + 1) ds

-- The values at a row's path, as `parts_at` lists them, with the index of their element.
abbrev pub found_at : List PlaceStep → Doc → List Found
found_at [] d = (0, Some d) ∷ []
found_at (named k ∷ []) d = cond (is_object d) ((0, get k d) ∷ []) []
found_at (named k ∷ p ∷ ps) d = option_map_or (found_at (p ∷ ps)) (get k d) []
found_at (each ∷ ps) d = option_map_or (found_in ps 0) (list_of d) []

-- The first of these values that violates a row with this type and need.
abbrev pub first_against : Want → Bool → List Found → Option Found
first_against w needed [] = None
first_against w needed (f ∷ fs) =
    cond (is_some (cause_against w needed f.1)) (Some f) (first_against w needed fs)

-- The first value at a row's path that violates the row.
abbrev pub break_at : List PlaceStep → Want → Bool → Doc → Option Found
break_at p w needed d = first_against w needed (found_at p d)

-- The value that a result of `first_break` names.
abbrev pub found_of : Break → Found
found_of b = (b.element, option_map (λ t. view t.now) b.value)
