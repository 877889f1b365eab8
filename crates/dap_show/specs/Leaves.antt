-- The lines of the leaves of a document. Source: own; a path is written as `diff` writes it.
use Rattle.std.specs.Prelude.{◌≡◌, ◌⊎◌, ℕ, suc, ◌+◌, ◌<◌, ◌==◌, Bool, true, false, cond, List, []}
use Rattle.std.specs.Prelude.{◌∷◌, ◌++◌, length, codes, if◌then◌else◌}
use Rattle.std.specs.List.{flat_map}
use Rattle.dap_tree.specs.Doc.{Doc, list, object, Items, no_items, item, Members, no_members}
use Rattle.dap_tree.specs.{Doc.member, Json.{IsRead, text_of}, Path.{Step, name, place}}
use Rattle.dap_difference.specs.Lines.{path_text, step_text}

abbrev pub has_items : Items → Bool
has_items no_items = false
has_items (item d ds) = true

abbrev pub has_members : Members → Bool
has_members no_members = false
has_members (member k d ms) = true

-- The line of a leaf: two spaces, its path, a space, and its complete value as canonical JSON.
abbrev pub leaf_line : List Step → Doc → List ℕ
leaf_line p d = codes "  " ++ path_text p ++ codes " " ++ text_of d ++ codes "\n"

-- The lines of all leaves of a document at this path, in order. A leaf is a scalar, or an empty
-- array or object.
abbrev mutual
  pub leaf_lines : List Step → Doc → List ℕ
  leaf_lines p (list ds) = cond (has_items ds) (item_lines p 0 ds) (leaf_line p (list ds))
  leaf_lines p (object ms) = cond (has_members ms) (member_lines p ms) (leaf_line p (object ms))
  leaf_lines p d = leaf_line p d

  -- The lines of elements, the first of which has index n.
  pub item_lines : List Step → ℕ → Items → List ℕ
  item_lines p n no_items = []
  item_lines p n (item d ds) = leaf_lines (p ++ place n ∷ []) d ++ item_lines p (suc n) ds

  pub member_lines : List Step → Members → List ℕ
  member_lines p no_members = []
  member_lines p (member k d ms) = leaf_lines (p ++ name k ∷ []) d ++ member_lines p ms

-- All below is for private clauses.

-- The text of the steps of a path, each with its dot or brackets.
abbrev pub steps_text : List Step → List ℕ
steps_text p = flat_map step_text p

-- This text as it is printed: without the dot of the first step. Without steps it is `.`.
abbrev pub printed_path : List ℕ → List ℕ
printed_path [] = codes "."
printed_path (b ∷ s) = if b == 46 then s else b ∷ s

-- The line of a leaf, after the text of the steps to it.
abbrev pub line_of : List ℕ → Doc → List ℕ
line_of path d = codes "  " ++ printed_path path ++ codes " " ++ text_of d ++ codes "\n"

-- A text was appended to the old lines; or the new lines exceed the limit, as do the old ones with
-- the text.
abbrev pub Lengthens : ℕ → List ℕ → List ℕ → List ℕ → Type 0
Lengthens limit old new text = (new ≡ old ++ text)
    ⊎ ((limit < length new) × (limit < length old + length text))

-- These are the lines of the leaves of the content, or both exceed the limit.
abbrev pub AreLeaves : ℕ → List ℕ → List ℕ → Type 0
AreLeaves limit bytes lines =
    (d : Doc) → IsRead bytes d → Lengthens limit [] lines (leaf_lines [] d)
