-- The document that nodes represent (own): `pieces` read back. The number n bounds the depth; the
-- number of pieces is enough.
use Rattle.std.specs.Prelude.{ℕ, zero, suc, List, [], ◌∷◌, map, length, take, drop}
use Rattle.dap_tree.specs.Doc.{Doc, null, list, object, Items, no_items, item, Members, no_members}
use Rattle.dap_tree.specs.Doc.{member}
use Rattle.dap_flat.specs.declared.node.Node.{Node}
use Rattle.dap_flat.specs.Pieces.{Piece, leaf, begin_list, end_list, begin_object, end_object, name}
use Rattle.dap_flat.specs.{Pieces.piece_of, Placing.size}

-- The number of pieces of the value that the list starts with.
abbrev pub first_size : List Piece → ℕ
first_size [] = 0
first_size (p ∷ ps) = size p

abbrev mutual
  -- The document that the list starts with.
  pub document_in : ℕ → List Piece → Doc
  document_in zero ps = null
  document_in (suc n) [] = null
  document_in (suc n) (leaf d ∷ ps) = d
  document_in (suc n) (begin_list k ∷ ps) = list (items_in n (take k ps))
  document_in (suc n) (end_list ∷ ps) = null
  document_in (suc n) (begin_object k ∷ ps) = object (members_in n (take k ps))
  document_in (suc n) (end_object ∷ ps) = null
  document_in (suc n) (name k ∷ ps) = null

  -- The items that the list is made of.
  pub items_in : ℕ → List Piece → Items
  items_in zero ps = no_items
  items_in (suc n) [] = no_items
  items_in (suc n) (p ∷ ps) =
      item (document_in n (p ∷ ps)) (items_in n (drop (size p) (p ∷ ps)))

  -- The members that the list is made of.
  pub members_in : ℕ → List Piece → Members
  members_in zero ps = no_members
  members_in (suc n) [] = no_members
  members_in (suc n) (leaf d ∷ ps) = no_members
  members_in (suc n) (begin_list k ∷ ps) = no_members
  members_in (suc n) (end_list ∷ ps) = no_members
  members_in (suc n) (begin_object k ∷ ps) = no_members
  members_in (suc n) (end_object ∷ ps) = no_members
  members_in (suc n) (name k ∷ ps) =
      member k (document_in n ps) (members_in n (drop (first_size ps) ps))

abbrev pub document_of : List Node → Doc
document_of ns = document_in (suc (length ns)) (map piece_of ns)
