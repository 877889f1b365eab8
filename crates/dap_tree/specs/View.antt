-- The document that a `Tree` represents.
use Rattle.std.specs.Prelude.{List, [], ◌∷◌, map, String, string_bytes}
use Rattle.std.specs.declared.alloc.Global.{Global}
use Rattle.dap_tree.specs.Doc.{Doc, null, boolean, whole, text, list, object, id, Items, no_items}
use Rattle.dap_tree.specs.Doc.{item, Members, no_members, member}
use Rattle.dap_tree.specs.declared.tree.Tree.{Tree, fold-Tree}
use Rattle.dap_tree.specs.declared.tree.Tree.TheOpen.{Tree-F}

abbrev pub items_of : List Doc → Items
items_of [] = no_items
items_of (d ∷ ds) = item d (items_of ds)

abbrev pub members_of : List (String Global × Doc) → Members
members_of [] = no_members
members_of (m ∷ ms) = member (string_bytes m.0) m.1 (members_of ms)

-- One level of a tree, in which each inner tree is already replaced by its document.
abbrev pub view_step : Tree-F Doc → Doc
view_step Tree-F.Null = null
view_step (Tree-F.Bool b) = boolean b
view_step (Tree-F.Whole z) = whole z
view_step (Tree-F.Text s) = text (string_bytes s)
view_step (Tree-F.List v) = list (items_of v.items)
view_step (Tree-F.Object m) = object (members_of m.entries)
view_step (Tree-F.Id s z) = id s z

-- The document of a tree (own).
abbrev pub view : Tree → Doc
view = fold-Tree Doc view_step

abbrev pub items_view : List Tree → Items
items_view ts = items_of (map view ts)

abbrev pub members_view : List (String Global × Tree) → Members
members_view ms = members_of (map (λ m. (m.0, view m.1)) ms)
