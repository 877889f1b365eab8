-- The indented text of a document: JSON with one line for each scalar and each bracket. Source:
-- own.
use Rattle.std.specs.Prelude.{ℕ, cond, List, [], ◌++◌, codes}
use Rattle.dap_tree.specs.Doc.{Doc, text, list, object, Items, no_items, item, Members, no_members}
use Rattle.dap_tree.specs.{Doc.member, Json.text_of}
use Rattle.dap_show.specs.Leaves.{has_items, has_members}

-- The margin of the parts of an array or object with this margin: two more spaces.
abbrev pub inner : List ℕ → List ℕ
inner margin = margin ++ codes "  "

-- The end of a line and the margin of the next one.
abbrev pub next_line : List ℕ → List ℕ
next_line margin = codes "\n" ++ margin

-- A part on its own lines: the text before it, a new line, and its own text.
abbrev pub part_text : List ℕ → List ℕ → List ℕ → List ℕ
part_text before margin part = before ++ next_line margin ++ part

-- The text of a document whose first line has this margin. A document without parts is written as
-- canonical JSON. Members are in the byte order of their names.
abbrev mutual
  pub indented : List ℕ → Doc → List ℕ
  indented margin (list ds) =
      cond (has_items ds)
      (codes "[" ++ item_texts [] (inner margin) ds ++ next_line margin ++ codes "]")
      (codes "[]")
  indented margin (object ms) =
      cond (has_members ms)
      (codes "{" ++ member_texts [] (inner margin) ms ++ next_line margin ++ codes "}")
      (codes "{}")
  indented margin d = text_of d

  -- The elements, with `before` before the first one and a comma before each later one.
  pub item_texts : List ℕ → List ℕ → Items → List ℕ
  item_texts before margin no_items = []
  item_texts before margin (item d ds) =
      part_text before margin (indented margin d) ++ item_texts (codes ",") margin ds

  pub member_texts : List ℕ → List ℕ → Members → List ℕ
  member_texts before margin no_members = []
  member_texts before margin (member k d ms) =
      part_text before margin (text_of (text k) ++ codes ": " ++ indented margin d)
      ++ member_texts (codes ",") margin ms
