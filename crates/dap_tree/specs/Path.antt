-- Paths into a document.
use Rattle.std.specs.Prelude.{◌≡◌, ◌⊎◌, ℕ, zero, suc, ◌<◌, ℤ, List, [], ◌∷◌, map, AllPairs}
use Rattle.std.specs.Prelude.{Contains, true, Option, Some, None, option_and_then}
use Rattle.std.specs.Cmp.Lexicographic.{slice_cmp}
use Rattle.std.specs.Ordering.{nat_cmp, is_lt}
use Rattle.dap_tree.specs.declared.sort.Sort.{Sort}
use Rattle.dap_tree.specs.Doc.{Doc, null, boolean, whole, text, list, object, id, Items, no_items}
use Rattle.dap_tree.specs.Doc.{item, get}
use Rattle.dap_tree.specs.Ids.{ids}

-- A step into a document (own): to a member by its name, or to an item by its index, from 0.
pub data Step : Type 0 where
  name : List ℕ → Step
  place : ℕ → Step

abbrev pub get_item : ℕ → Items → Option Doc
get_item n no_items = None
get_item zero (item d ds) = Some d
get_item (suc n) (item d ds) = get_item n ds

abbrev pub step : Step → Doc → Option Doc
step (name k) d = get k d
step (place n) null = None
step (place n) (boolean b) = None
step (place n) (whole z) = None
step (place n) (text s) = None
step (place n) (list ds) = get_item n ds
step (place n) (object ms) = None
step (place n) (id s z) = None

-- The document at the path (own), or `None` if a step leads to nothing.
abbrev pub at : List Step → Doc → Option Doc
at [] d = Some d
at (p ∷ ps) d = option_and_then (at ps) (step p d)

-- ---- the order of paths

-- A step precedes another (own): its name is less in byte order, or its index is less.
abbrev pub StepPrecedes : Step → Step → Type 0
StepPrecedes (name k) (name l) = is_lt (slice_cmp nat_cmp k l) ≡ true
StepPrecedes (name k) (place n) = ⊥
StepPrecedes (place m) (name l) = ⊥
StepPrecedes (place m) (place n) = m < n

-- A path precedes another (own): at the first step in which they differ, its step precedes that of
-- the other.
abbrev pub IsBefore : List Step → List Step → Type 0
IsBefore [] qs = ⊥
IsBefore (p ∷ ps) [] = ⊥
IsBefore (p ∷ ps) (q ∷ qs) = StepPrecedes p q ⊎ ((p ≡ q) × IsBefore ps qs)

-- The paths to the ids of a document (own): the i-th path leads to the i-th id, each path precedes
-- the later ones, and no other path leads to an id.
pub record AreIdPaths (d : Doc) (paths : List (List Step)) : Type 0 where
  pub reached : map (λ p. at p d) paths ≡ map (λ i. Some (id i.0 i.1)) (ids d)
  pub ordered : AllPairs IsBefore paths
  pub every : (p : List Step) (s : Sort) (z : ℤ) → at p d ≡ Some (id s z) → Contains paths p
