-- Paths of rows of the profile: the paths of a document that match, and the values at them.
use Rattle.dap_tree.specs.Doc.{Doc, object, list, Items, no_items, item, get}
use Rattle.dap_tree.specs.Path.{Step, name, place}
use Rattle.std.specs.Prelude.{Bool, true, false, cond, ◌&&◌, List, [], ◌∷◌, flat_map, Option, Some}
use Rattle.std.specs.Prelude.{None, bytes_eq}
use Rattle.std.specs.Option.{option_map_or}
use Rattle.dap_profile.specs.PlaceSteps.{PlaceStep, named, each}

-- The row's path matches the path of a document: step by step the same name, or any element.
abbrev pub fits_place : List PlaceStep → List Step → Bool
fits_place [] [] = true
fits_place (named k ∷ ps) (name l ∷ p) = bytes_eq k l && fits_place ps p
fits_place (each ∷ ps) (place i ∷ p) = fits_place ps p
fits_place _ _ = false

-- The document is an object.
abbrev pub is_object : Doc → Bool
is_object (object ms) = true
is_object _ = false

-- The elements of an array, in order.
abbrev pub elements : Items → List Doc
elements no_items = []
elements (item d ds) = d ∷ elements ds

-- The elements, if the document is an array.
abbrev pub list_of : Doc → Option (List Doc)
list_of (list ds) = Some (elements ds)
list_of _ = None

-- The values at a row's path (own): one for each parent that exists and is an object or array, as
-- the path requires. An absent member counts as `None`.
abbrev pub parts_at : List PlaceStep → Doc → List (Option Doc)
parts_at [] d = Some d ∷ []
parts_at (named k ∷ []) d = cond (is_object d) (get k d ∷ []) []
parts_at (named k ∷ p ∷ ps) d = option_map_or (parts_at (p ∷ ps)) (get k d) []
parts_at (each ∷ ps) d = option_map_or (flat_map (parts_at ps)) (list_of d) []
