-- The lines of a document: YAML 1.2 in block style, with flow style only for empty lists and
-- objects. Source: YAML 1.2, chapter 8; the indentation is own.
use Rattle.std.specs.Prelude.{ℕ, ◌+◌, Bool, true, false, cond, List, [], ◌++◌, codes, replicate}
use Rattle.dap_tree.specs.Doc.{Doc, list, object, Items, no_items}
use Rattle.dap_tree.specs.Doc.{item, Members, no_members, member}
use Rattle.dap_transcript.specs.{Names.name_text, Scalars.scalar}

-- The indentation of a line.
abbrev pub margin : ℕ → List ℕ
margin n = replicate n 32

-- A scalar, and the end of its line.
abbrev pub scalar_line : List ℕ → List ℕ
scalar_line s = codes " " ++ s ++ codes "\n"

-- What follows `NAME:` or `-` on its line if the value is a list.
abbrev pub list_start : Items → List ℕ
list_start no_items = scalar_line (codes "[]")
list_start (item d ds) = codes "\n"

-- The same if it is an object. The first member of an object that is an element is on the line of
-- its `-`.
abbrev pub object_start : Bool → Members → List ℕ
object_start named no_members = scalar_line (codes "{}")
object_start named (member k d ms) = cond named (codes "\n") (codes " ")

-- The indentation of the elements of a list that is the value of a name, or itself an element, at
-- the indentation n.
abbrev pub list_margin : Bool → ℕ → ℕ
list_margin named n = cond named n (n + 2)

-- The same for the first member of an object.
abbrev pub first_margin : Bool → ℕ → ℕ
first_margin named n = cond named (n + 2) 0

abbrev mutual
  -- What follows `NAME:`, or what follows `-`, at the indentation n.
  pub part_text : Bool → ℕ → Doc → List ℕ
  part_text named n (list ds) = list_start ds ++ item_lines (list_margin named n) ds
  part_text named n (object ms) =
      object_start named ms ++ member_lines (first_margin named n) (n + 2) ms
  part_text named n d = scalar_line (scalar d)

  -- The elements of a list, each after `-` at the indentation n.
  pub item_lines : ℕ → Items → List ℕ
  item_lines n no_items = []
  item_lines n (item d ds) = (margin n ++ codes "-" ++ part_text false n d) ++ item_lines n ds

  -- The members of an object, the first at the indentation `first` and the others at n.
  pub member_lines : ℕ → ℕ → Members → List ℕ
  member_lines first n no_members = []
  member_lines first n (member k d ms) =
      (margin first ++ name_text k ++ codes ":" ++ part_text true n d) ++ member_lines n n ms
