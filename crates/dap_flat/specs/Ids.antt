-- The ids of a flat document, and their replacement by other numbers (own).
use Rattle.std.specs.Prelude.{ℤ, List, [], ◌∷◌, ◌++◌, drop, slice_index_or}
use Rattle.dap_tree.specs.declared.sort.Sort.{Sort}
use Rattle.dap_tree.specs.Doc.{Doc, null, boolean, whole, text, list, object, id}
use Rattle.dap_flat.specs.Pieces.{Piece, leaf, begin_list, end_list, begin_object, end_object, name}

abbrev pub leaf_ids : Doc → List (Sort × ℤ)
leaf_ids null = []
leaf_ids (boolean b) = []
leaf_ids (whole z) = []
leaf_ids (text s) = []
leaf_ids (list ds) = []
leaf_ids (object ms) = []
leaf_ids (id s z) = (s, z) ∷ []

abbrev pub piece_ids : Piece → List (Sort × ℤ)
piece_ids (leaf d) = leaf_ids d
piece_ids (begin_list n) = []
piece_ids end_list = []
piece_ids (begin_object n) = []
piece_ids end_object = []
piece_ids (name k) = []

-- The ids among these pieces, in order.
abbrev pub ids_in : List Piece → List (Sort × ℤ)
ids_in [] = []
ids_in (p ∷ ps) = piece_ids p ++ ids_in ps

abbrev pub leaf_numbered : Doc → List ℤ → Doc
leaf_numbered null ns = null
leaf_numbered (boolean b) ns = boolean b
leaf_numbered (whole z) ns = whole z
leaf_numbered (text s) ns = text s
leaf_numbered (list ds) ns = list ds
leaf_numbered (object ms) ns = object ms
leaf_numbered (id s z) ns = id s (slice_index_or ns 0 z)

abbrev pub with_number : Piece → List ℤ → Piece
with_number (leaf d) ns = leaf (leaf_numbered d ns)
with_number (begin_list n) ns = begin_list n
with_number end_list ns = end_list
with_number (begin_object n) ns = begin_object n
with_number end_object ns = end_object
with_number (name k) ns = name k

abbrev pub after_leaf : Doc → List ℤ → List ℤ
after_leaf null ns = ns
after_leaf (boolean b) ns = ns
after_leaf (whole z) ns = ns
after_leaf (text s) ns = ns
after_leaf (list ds) ns = ns
after_leaf (object ms) ns = ns
after_leaf (id s z) ns = drop 1 ns

abbrev pub after_piece : Piece → List ℤ → List ℤ
after_piece (leaf d) ns = after_leaf d ns
after_piece (begin_list n) ns = ns
after_piece end_list ns = ns
after_piece (begin_object n) ns = ns
after_piece end_object ns = ns
after_piece (name k) ns = ns

-- The pieces with the i-th number at their i-th id. An id after the last number keeps its own.
abbrev pub numbered : List Piece → List ℤ → List Piece
numbered [] ns = []
numbered (p ∷ ps) ns = with_number p ns ∷ numbered ps (after_piece p ns)
