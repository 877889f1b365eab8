-- The differences of two documents, in the order of their paths.
use Rattle.std.specs.Prelude.{ℕ, suc, Bool, true, false, cond, ◌&&◌, List, [], ◌∷◌, ◌++◌, map}
use Rattle.std.specs.Prelude.{Some, None, bytes_eq}
use Rattle.std.specs.Cmp.Lexicographic.{slice_cmp}
use Rattle.std.specs.Ordering.{nat_cmp, match_ordering, int_eq}
use Rattle.dap_tree.specs.Sorts.{same_sort}
use Rattle.dap_tree.specs.Doc.{Doc, null, boolean, whole, text, list, object, id, Items, no_items}
use Rattle.dap_tree.specs.Doc.{item, Members, no_members, member}
use Rattle.dap_tree.specs.Path.{Step, name, place}
use Rattle.dap_difference.specs.Differences.{Difference}

abbrev pub same_boolean : Bool → Bool → Bool
same_boolean true b = b
same_boolean false true = false
same_boolean false false = true

-- Both are equal and have no parts.
abbrev pub same_scalar : Doc → Doc → Bool
same_scalar null null = true
same_scalar (boolean a) (boolean b) = same_boolean a b
same_scalar (whole y) (whole z) = int_eq y z
same_scalar (text s) (text t) = bytes_eq s t
same_scalar (id s y) (id t z) = same_sort s t && int_eq y z
same_scalar _ _ = false

-- Both are arrays without items, or both are objects without members.
abbrev pub are_empty : Doc → Doc → Bool
are_empty (list no_items) (list no_items) = true
are_empty (object no_members) (object no_members) = true
are_empty _ _ = false

-- Only one document has a value after the step.
abbrev pub only_a : Step → Doc → Difference
only_a s d = record { path = s ∷ []; of_a = Some d; of_b = None }

abbrev pub only_b : Step → Doc → Difference
only_b s e = record { path = s ∷ []; of_a = None; of_b = Some e }

-- The difference of the two, unless they are equal scalars.
abbrev pub both : Doc → Doc → List Difference
both d e =
    cond (same_scalar d e) [] (record { path = []; of_a = Some d; of_b = Some e } ∷ [])

-- A difference after a step.
abbrev pub behind : Step → Difference → Difference
behind s x = record { path = s ∷ x.path; of_a = x.of_a; of_b = x.of_b }

-- The items from index n on, which only B has.
abbrev pub items_of_b : ℕ → Items → List Difference
items_of_b n no_items = []
items_of_b n (item e es) = only_b (place n) e ∷ items_of_b (suc n) es

abbrev pub members_of_b : Members → List Difference
members_of_b no_members = []
members_of_b (member l e ns) = only_b (name l) e ∷ members_of_b ns

-- The differences from A's member k on, if these are B's remaining members: `differ` yields those
-- of the member d, and `rest` those after it.
abbrev pub from_member : List ℕ → Doc → (Doc → List Difference) → (Members → List Difference)
    → Members → List Difference
from_member k d differ rest no_members = only_a (name k) d ∷ rest no_members
from_member k d differ rest (member l e ns) =
    match_ordering (slice_cmp nat_cmp k l)
    (only_a (name k) d ∷ rest (member l e ns))
    (map (behind (name k)) (differ e) ++ rest ns)
    (only_b (name l) e ∷ from_member k d differ rest ns)

abbrev mutual
  pub differences : Doc → Doc → List Difference
  differences (list ds) (list es) = items_differences 0 ds es
  differences (object ms) (object ns) = members_differences ms ns
  differences d e = both d e

  -- the items start at index n
  pub items_differences : ℕ → Items → Items → List Difference
  items_differences n no_items es = items_of_b n es
  items_differences n (item d ds) no_items =
      only_a (place n) d ∷ items_differences (suc n) ds no_items
  items_differences n (item d ds) (item e es) =
      map (behind (place n)) (differences d e) ++ items_differences (suc n) ds es

  pub members_differences : Members → Members → List Difference
  members_differences no_members ns = members_of_b ns
  members_differences (member k d ms) ns =
      from_member k d (λ e. differences d e) (λ es. members_differences ms es) ns

-- A difference after a path.
abbrev pub below : List Step → Difference → Difference
below p x = record { path = p ++ x.path; of_a = x.of_a; of_b = x.of_b }
