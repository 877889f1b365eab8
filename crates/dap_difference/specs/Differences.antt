-- The paths at which two documents differ, and the values there; and inserting other values into a
-- document. Source: own.
use Rattle.std.specs.Prelude.{◌≡◌, ◌≢◌, ◌↔◌, Bool, true, false, List, [], ◌∷◌, ◌++◌, map, All}
use Rattle.std.specs.Prelude.{AllPairs}
use Rattle.std.specs.Prelude.{Contains, Option, Some, None, option_and_then, option_map}
use Rattle.dap_tree.specs.Doc.{Doc, list, object, no_items}
use Rattle.dap_tree.specs.Doc.{no_members, is_ordered}
use Rattle.dap_tree.specs.Path.{Step, step, at, IsBefore}

-- Two arrays, or two objects: they differ in their parts.
abbrev pub are_parted : Doc → Doc → Bool
are_parted (list ds) (list es) = true
are_parted (object ms) (object ns) = true
are_parted d e = false

abbrev pub have_parts : Option Doc → Option Doc → Bool
have_parts None q = false
have_parts (Some d) None = false
have_parts (Some d) (Some e) = are_parted d e

-- Two values differ at the path, where `None` means that there is no value. At the end of the path
-- they are not equal and do not both have parts. Before each step both have parts, and their values
-- after the step differ at the rest of the path.
abbrev pub DifferAt : List Step → Option Doc → Option Doc → Type 0
DifferAt [] o q = (o ≢ q) × (have_parts o q ≡ false)
DifferAt (s ∷ p) o q = (have_parts o q ≡ true)
    × DifferAt p (option_and_then (step s) o) (option_and_then (step s) q)

-- A path, and the value of each of the two documents A and B there.
pub record Difference : Type 0 where
  pub path : List Step
  pub of_a : Option Doc
  pub of_b : Option Doc

-- The list contains exactly the differences of the documents. They differ at each path of the list
-- and have these values there. Each path at which they differ is in the list, and each path
-- precedes the later ones.
pub record AreDifferences (a b : Doc) (reported : List Difference) : Type 0 where
  pub differ : All (λ x. DifferAt x.path (Some a) (Some b)) reported
  pub values : All (λ x. (x.of_a ≡ at x.path a) × (x.of_b ≡ at x.path b)) reported
  pub every : (p : List Step) → DifferAt p (Some a) (Some b)
      → Contains (map (λ x. x.path) reported) p
  pub ordered : AllPairs IsBefore (map (λ x. x.path) reported)

-- ---- inserting values

-- The value at a path without its parts.
abbrev pub form : Doc → Doc
form (list ds) = list no_items
form (object ms) = object no_members
form d = d

-- The path is not one of these, and leads through none of them.
abbrev pub IsApart : List Difference → List Step → Type 0
IsApart reported p = All (λ x. (rest : List Step) → p ≡ x.path ++ rest → ⊥) reported

-- The document is A's with the values of B inserted at the paths of the list: it has B's values
-- there. At all other paths it has A's values, compared without their parts.
pub record HasValuesOfB (reported : List Difference) (a put : Doc) : Type 0 where
  pub at_told : All (λ x. at x.path put ≡ x.of_b) reported
  pub apart : (p : List Step) → IsApart reported p
      → option_map form (at p put) ≡ option_map form (at p a)

-- Among the documents whose members are in order, exactly B's document has these values.
abbrev pub PutInIsB : List Difference → Doc → Doc → Type 0
PutInIsB reported a b = (put : Doc) → is_ordered put ≡ true
    → HasValuesOfB reported a put ↔ (put ≡ b)
