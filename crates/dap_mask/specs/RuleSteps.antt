-- The steps of the place of a rule: to members, and to elements of arrays, all of them or those
-- with one `name`.
use Rattle.std.specs.Prelude.{ℕ, Bool, true, false, cond, ◌&&◌, List, [], ◌∷◌, map, Option}
use Rattle.std.specs.Prelude.{Some, None, option_and_then, codes, bytes_eq}
use Rattle.dap_tree.specs.Doc.{Doc, get, change_child, change_items}
use Rattle.dap_tree.specs.Path.{Step, name, place, step}
use Rattle.dap_profile.specs.PlaceSteps.{PlaceStep, named as member, each}
use Rattle.dap_message.specs.Rows.{is_text}

-- One step of a place: to the member with a name, or to each element of an array. With a text, only
-- to the elements whose `name` is that text.
pub data RuleStep : Type 0 where
  named : List ℕ → RuleStep
  elements : Option (List ℕ) → RuleStep

-- The step without its text.
abbrev pub plain_step : RuleStep → PlaceStep
plain_step (named k) = member k
plain_step (elements n) = each

abbrev pub plain_place : List RuleStep → List PlaceStep
plain_place steps = map plain_step steps

-- No step of the place selects elements by a text.
abbrev pub is_unnamed : List RuleStep → Bool
is_unnamed [] = true
is_unnamed (named k ∷ steps) = is_unnamed steps
is_unnamed (elements None ∷ steps) = is_unnamed steps
is_unnamed (elements (Some n) ∷ steps) = false

-- ---- elements by their name

-- The value has the name (own): it is an object whose member `name` is this string. Without a text,
-- every value has it.
abbrev pub is_called : Option (List ℕ) → Option Doc → Bool
is_called None o = true
is_called (Some n) o = is_text n (option_and_then (get (codes "name")) o)

-- Each element along the path has the name that its step gives (own). Only the part of the path
-- that the place matches counts.
abbrev pub has_names : List RuleStep → Option Doc → List Step → Bool
has_names (named k ∷ steps) o (name l ∷ p) =
    cond (bytes_eq k l) (has_names steps (option_and_then (step (name l)) o) p) true
has_names (elements n ∷ steps) o (place i ∷ p) =
    is_called n (option_and_then (step (place i)) o)
    && has_names steps (option_and_then (step (place i)) o) p
has_names _ o p = true

-- ---- changes at a place

-- Changes a value by f if it has the name.
abbrev pub change_called : Option (List ℕ) → (Doc → Doc) → Doc → Doc
change_called n f d = cond (is_called n (Some d)) (f d) d

-- The document with f applied at each path that the place leads to.
abbrev pub change_at_place : List RuleStep → (Doc → Doc) → Doc → Doc
change_at_place [] f d = f d
change_at_place (named k ∷ steps) f d = change_child k (change_at_place steps f) d
change_at_place (elements n ∷ steps) f d =
    change_items (change_called n (change_at_place steps f)) d
