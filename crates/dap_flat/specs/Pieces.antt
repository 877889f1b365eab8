-- The flat form of a document (own): its pieces in the order of its text. A list and an object are
-- a start, which has the number of pieces inside, then their parts and an end. A member is its name
-- and the pieces of its value.
use Rattle.std.specs.Prelude.{◌≡◌, ℕ, pos, List, [], ◌∷◌, ◌++◌, map, length}
use Rattle.dap_tree.specs.Doc.{Doc, null, boolean, whole, text, list, object, id, Items, no_items}
use Rattle.dap_tree.specs.Doc.{item, Members, no_members, member}
use Rattle.dap_flat.specs.declared.node.Node.{Node}
use Rattle.dap_flat.specs.declared.node.Node.TheVariants as node

pub data Piece : Type 0 where
  leaf : Doc → Piece
  begin_list : ℕ → Piece
  end_list : Piece
  begin_object : ℕ → Piece
  end_object : Piece
  name : List ℕ → Piece

abbrev pub piece_of : Node → Piece
piece_of node.Null = leaf null
piece_of (node.Bool b) = leaf (boolean b)
piece_of (node.Unsigned n) = leaf (whole (pos n))
piece_of (node.Negative z) = leaf (whole z)
piece_of (node.Text s) = leaf (text s.now)
piece_of (node.List n) = begin_list n
piece_of node.EndList = end_list
piece_of (node.Object n) = begin_object n
piece_of node.EndObject = end_object
piece_of (node.Name s) = name s.now
piece_of (node.Id s z) = leaf (id s z)

abbrev mutual
  pub pieces : Doc → List Piece
  pieces null = leaf null ∷ []
  pieces (boolean b) = leaf (boolean b) ∷ []
  pieces (whole z) = leaf (whole z) ∷ []
  pieces (text s) = leaf (text s) ∷ []
  pieces (list ds) = begin_list (length (items_pieces ds)) ∷ (items_pieces ds ++ end_list ∷ [])
  pieces (object ms) =
      begin_object (length (members_pieces ms)) ∷ (members_pieces ms ++ end_object ∷ [])
  pieces (id s z) = leaf (id s z) ∷ []

  pub items_pieces : Items → List Piece
  items_pieces no_items = []
  items_pieces (item d ds) = pieces d ++ items_pieces ds

  pub members_pieces : Members → List Piece
  members_pieces no_members = []
  members_pieces (member k d ms) = name k ∷ (pieces d ++ members_pieces ms)

-- The new nodes are the old ones and, after them, nodes of these pieces.
pub record Appends (old new : List Node) (ps : List Piece) : Type 0 where
  pub more : List Node
  pub added : new ≡ old ++ more
  pub shows : map piece_of more ≡ ps

-- The nodes represent this document.
abbrev pub Represents : List Node → Doc → Type 0
Represents ns d = map piece_of ns ≡ pieces d
