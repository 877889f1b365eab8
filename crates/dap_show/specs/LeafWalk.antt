-- The leaves of a document among the nodes of a flat document. Source: own.
use Rattle.std.specs.Prelude.{◌≡◌, ℕ, ◌+◌, List, [], ◌∷◌, ◌++◌, length, Option, Some, None}
use Rattle.dap_tree.specs.{Doc.{Doc, Items, Members}, Path.{Step, name as name_step, place}}
use Rattle.dap_flat.specs.{Finding.{Holds, Stand}, declared.node.Node.Node}
use Rattle.dap_flat.specs.Pieces.{Piece, begin_list, begin_object, end_list, end_object, name}
use Rattle.dap_flat.specs.Pieces.{items_pieces, members_pieces, pieces}
use Rattle.dap_show.specs.Leaves.{Lengthens, item_lines, leaf_lines, member_lines, steps_text}

-- The number of pieces inside an array or object that starts with the piece. A scalar has none.
abbrev pub inside_of : Piece → Option ℕ
inside_of (begin_list n) = Some n
inside_of (begin_object n) = Some n
inside_of _ = None

-- The step to the part that starts with the piece at `at`, and the place of the part's document. No
-- part starts with the end of an array or object. An element has this index.
abbrev pub part_from : ℕ → ℕ → Piece → Option (Step × ℕ)
part_from at index end_list = None
part_from at index end_object = None
part_from at index (name k) = Some (name_step k, at + 1)
part_from at index _ = Some (place index, at)

-- The elements of an array, or the members of an object.
pub data Parts : Type 0 where
  elements : Items → Parts
  members : Members → Parts

-- Their pieces, and the end of the array or object.
abbrev pub parts_pieces : Parts → List Piece
parts_pieces (elements ds) = items_pieces ds ++ end_list ∷ []
parts_pieces (members ms) = members_pieces ms ++ end_object ∷ []

-- The lines of their leaves. The first element has index n.
abbrev pub parts_lines : List Step → ℕ → Parts → List ℕ
parts_lines p n (elements ds) = item_lines p n ds
parts_lines p n (members ms) = member_lines p ms

module _ (limit : ℕ) (ns : List Node) where
  -- The lines of the document that starts at `at` were appended. The path has this text, and `end`
  -- is the place after the document.
  abbrev pub PushesDocument : ℕ → List ℕ → List ℕ → List ℕ → ℕ → Type 0
  PushesDocument at path old new end = (d : Doc) (p : List Step) → Holds ns at d
      → steps_text p ≡ path
      → Lengthens limit old new (leaf_lines p d) × (end ≡ at + length (pieces d))

  -- The same for parts and the end of their array or object.
  abbrev pub PushesParts : ℕ → List ℕ → List ℕ → List ℕ → ℕ → Type 0
  PushesParts from path old new end = (ps : Parts) (p : List Step)
      → Stand ns from (parts_pieces ps) → steps_text p ≡ path
      → Lengthens limit old new (parts_lines p 0 ps) × (end ≡ from + length (parts_pieces ps))

  -- For a loop: the lines of the n parts before `at` were appended.
  pub record PartsLeft (from at n : ℕ) (old now : List ℕ) (ps : Parts) (p : List Step) : Type 0
    where
      pub left : Parts
      pub holds : Stand ns at (parts_pieces left)
      pub done : List ℕ
      pub split : parts_lines p 0 ps ≡ done ++ parts_lines p n left
      pub appended : Lengthens limit old now done
      pub count : from + length (parts_pieces ps) ≡ at + length (parts_pieces left)

  abbrev pub ArePartsLeft : ℕ → ℕ → ℕ → List ℕ → List ℕ → List ℕ → Type 0
  ArePartsLeft from at n path old now = (ps : Parts) (p : List Step)
      → Stand ns from (parts_pieces ps) → steps_text p ≡ path → PartsLeft from at n old now ps p
