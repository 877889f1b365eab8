-- For private clauses: a member that is inserted among others (own).
use Rattle.std.specs.Prelude.{◌≡◌, ℕ, ◌+◌, List, ◌∷◌, ◌++◌, map, length, Option}
use Rattle.dap_tree.specs.Doc.{Doc, Members, put}
use Rattle.dap_flat.specs.{declared.node.Node.Node, Order.{AreBelow, EndsAt, joined}}
use Rattle.dap_flat.specs.Pieces.{Piece, leaf, begin_list, end_list, begin_object, end_object, name}
use Rattle.dap_flat.specs.Pieces.{piece_of, pieces, members_pieces, Appends}

-- The number of pieces of a value that starts with this one.
abbrev pub size : Piece → ℕ
size (leaf d) = 1
size (begin_list n) = n + 2
size end_list = 1
size (begin_object n) = n + 2
size end_object = 1
size (name k) = 1

-- A member of that name belongs at p among these members.
pub record Inserts (held : List Node) (k : List ℕ) (p : ℕ) (ms : Members) (d : Doc) : Type 0 where
  pub front : List Node
  pub back : List Node
  pub all : held ≡ front ++ back
  pub here : p ≡ length front
  pub shows : map piece_of front ++ (name k ∷ (pieces d ++ map piece_of back))
      ≡ members_pieces (put k d ms)

abbrev pub InsertsAt : List Node → List ℕ → ℕ → Type 0
InsertsAt held k p = (ms : Members) (d : Doc) → map piece_of held ≡ members_pieces ms
    → Inserts held k p ms d

-- The names of the members before p are less than that name.
pub record Between (held : List Node) (k : List ℕ) (p : ℕ) (ms : Members) : Type 0 where
  pub front : List Node
  pub back : List Node
  pub all : held ≡ front ++ back
  pub here : p ≡ length front
  pub done : Members
  pub left : Members
  pub joins : ms ≡ joined done left
  pub low : AreBelow done k
  pub before : map piece_of front ≡ members_pieces done
  pub behind : map piece_of back ≡ members_pieces left

abbrev pub IsBetween : List Node → List ℕ → ℕ → Type 0
IsBetween held k p = (ms : Members) → map piece_of held ≡ members_pieces ms
    → Between held k p ms

-- The member after the others is inserted among them.
abbrev pub Places : ℕ → ℕ → List ℕ → List Node → List Node → Type 0
Places start at k old new = (before held more : List Node) (ms : Members) (d : Doc)
    → old ≡ before ++ (held ++ more) → length before ≡ start → length before + length held ≡ at
    → map piece_of held ≡ members_pieces ms → map piece_of more ≡ name k ∷ pieces d
    → Appends before new (members_pieces (put k d ms))

-- The member that was read last is put in its place, and `now` is the greatest name after that.
abbrev pub PlacesMember : ℕ → ℕ → Option (List ℕ) → List ℕ → List Node → List Node → Option (List ℕ)
    → Type 0
PlacesMember start at last k old new now = (before held more : List Node) (ms : Members) (d : Doc)
    → old ≡ before ++ (held ++ more) → length before ≡ start → length before + length held ≡ at
    → map piece_of held ≡ members_pieces ms → map piece_of more ≡ name k ∷ pieces d
    → EndsAt last ms → Appends before new (members_pieces (put k d ms)) × EndsAt now (put k d ms)
