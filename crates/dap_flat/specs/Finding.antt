-- The places of a document's parts among the nodes (own).
use Rattle.std.specs.Prelude.{◌≡◌, ℕ, ◌+◌, List, [], ◌∷◌, ◌++◌, map, length, Option, Some, None}
use Rattle.std.specs.Prelude.{MatchOption}
use Rattle.dap_tree.specs.Doc.{Doc, Members, get, get_member, change_member, change_child}
use Rattle.dap_flat.specs.declared.node.Node.{Node}
use Rattle.dap_flat.specs.Pieces.{Piece, end_object, piece_of, pieces, members_pieces}

-- The nodes from `at` on start with these pieces.
pub record Stand (ns : List Node) (at : ℕ) (ps : List Piece) : Type 0 where
  pub front : List Node
  pub inside : List Node
  pub behind : List Node
  pub all : ns ≡ front ++ (inside ++ behind)
  pub here : at ≡ length front
  pub shows : map piece_of inside ≡ ps

-- The document starts at `at`.
abbrev pub Holds : List Node → ℕ → Doc → Type 0
Holds ns at d = Stand ns at (pieces d)

-- These members, and the end of their object, start at `at`.
abbrev pub HoldsMembers : List Node → ℕ → Members → Type 0
HoldsMembers ns at ms = Stand ns at (members_pieces ms ++ end_object ∷ [])

-- The pieces of the document e are between `pre` and `post`. If f returns a document with the
-- same number of pieces, those replace the pieces of e in the changed whole.
pub record Between (whole : List Piece) (changed : (Doc → Doc) → List Piece) (e : Doc)
    (pre post : List Piece) : Type 0 where
  pub is : whole ≡ pre ++ (pieces e ++ post)
  pub changes : (f : Doc → Doc) → length (pieces (f e)) ≡ length (pieces e)
      → changed f ≡ pre ++ (pieces (f e) ++ post)

-- The member was found: its value starts at i, in a whole that starts at `at`.
pub record Found (ns : List Node) (at i : ℕ) (whole : List Piece)
    (changed : (Doc → Doc) → List Piece) (found : Option Doc) : Type 0 where
  pub part : Doc
  pub is : found ≡ Some part
  pub pre : List Piece
  pub post : List Piece
  pub between : Between whole changed part pre post
  pub here : i ≡ at + length pre
  pub holds : Holds ns i part

-- It is the place of that document, or `None` if there is no document.
abbrev pub Finds : List Node → ℕ → List Piece → ((Doc → Doc) → List Piece) → Option ℕ → Option Doc
    → Type 0
Finds ns at whole changed found d =
    MatchOption found (d ≡ None) (λ i. Found ns at i whole changed d)

abbrev pub FindsMember : List Node → ℕ → List ℕ → Option ℕ → Type 0
FindsMember ns at k found = (ms : Members) → HoldsMembers ns at ms
    → Finds ns at (members_pieces ms) (λ f. members_pieces (change_member k f ms)) found
    (get_member k ms)

-- The child is found. If its pieces are changed in their place, the whole is the document with that
-- child changed.
abbrev pub FindsChild : List Node → ℕ → List ℕ → Option ℕ → Type 0
FindsChild ns at k found = (d : Doc) → Holds ns at d
    → Finds ns at (pieces d) (λ f. pieces (change_child k f d)) found (get k d)

-- For a loop: a name is found among the remaining members, or changed there, as among all members.
pub record Left (ns : List Node) (from : ℕ) (k : List ℕ) (p : ℕ) (ms : Members) : Type 0 where
  pub members : Members
  pub holds : HoldsMembers ns p members
  pub alike : get_member k ms ≡ get_member k members
  pub pre : List Piece
  pub is : members_pieces ms ≡ pre ++ members_pieces members
  pub here : p ≡ from + length pre
  pub changes : (f : Doc → Doc)
      → members_pieces (change_member k f ms) ≡ pre ++ members_pieces (change_member k f members)

abbrev pub IsLeft : List Node → ℕ → List ℕ → ℕ → Type 0
IsLeft ns from k p = (ms : Members) → HoldsMembers ns from ms → Left ns from k p ms
