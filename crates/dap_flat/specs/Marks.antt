-- The ids of a text by their places (own). Their numbers are replaced without reading the text.
use Rattle.std.specs.Prelude.{◌≡◌, ℕ, ℤ, ◌+◌, ◌-◌, Bool, List, [], ◌∷◌, ◌++◌, map, take, drop}
use Rattle.std.specs.{Prelude.{length, slice_index_or}, Fmt.signed_decimal}
use Rattle.dap_tree.specs.{declared.sort.Sort.Sort, Doc.Doc, Ids.{ids, with_ids}, Json.text_of}
use Rattle.dap_flat.specs.{declared.marks.Mark.Mark, declared.node.Node.Node}
use Rattle.dap_flat.specs.declared.node.Node.TheVariants as node
use Rattle.dap_flat.specs.Lengths.{comma_length, ends_value, node_length}

-- The id of a mark.
abbrev pub id_at : Mark → Sort × ℤ
id_at m = (m.sort, m.number)

-- The number of bytes of a mark's number.
abbrev pub digits_length : Mark → ℕ
digits_length m = length (signed_decimal m.number)

-- The text, which starts at the place `at`, with the i-th number in place of the number of the i-th
-- mark. A mark after the last number keeps its own.
abbrev pub spliced : ℕ → List ℕ → List Mark → List ℤ → List ℕ
spliced at text [] ns = text
spliced at text (m ∷ ms) ns =
    take (m.at - at) text ++ (signed_decimal (slice_index_or ns 0 m.number)
    ++ spliced (m.at + digits_length m) (drop (digits_length m) (drop (m.at - at) text)) ms
    (drop 1 ns))

-- The text is that of the document, and the marks are its ids. With other numbers at the marks, it
-- is the text of the document with these ids.
pub record IsMarkedText (text : List ℕ) (marks : List Mark) (d : Doc) : Type 0 where
  pub text_is : text ≡ text_of d
  pub ids_are : map id_at marks ≡ ids d
  pub splices : (ns : List ℤ) → spliced 0 text marks ns ≡ text_of (with_ids d ns)

-- The marked text of the document comes after the old bytes and marks.
pub record AppendsMarked (old new : List ℕ) (old_marks new_marks : List Mark) (d : Doc) : Type 0
  where
    pub text : List ℕ
    pub marks : List Mark
    pub text_added : new ≡ old ++ text
    pub marks_added : new_marks ≡ old_marks ++ marks
    pub marked : IsMarkedText text marks d

-- All below is for private clauses.

-- The length of the numbers at marks, of which the i-th mark has the i-th number.
abbrev pub numbers_length : List Mark → List ℤ → ℕ
numbers_length [] ns = 0
numbers_length (m ∷ ms) ns =
    length (signed_decimal (slice_index_or ns 0 m.number)) + numbers_length ms (drop 1 ns)

-- The new list is the old list, possibly with more appended.
abbrev pub Extends : {X : Type 0} → List X → List X → Type 0
Extends {X} old new = take (length old) new ≡ old

-- The mark of a node whose text starts at this place, with the comma before it.
abbrev pub node_marks : ℕ → Bool → Node → List Mark
node_marks at comes node.Null = []
node_marks at comes (node.Bool b) = []
node_marks at comes (node.Unsigned n) = []
node_marks at comes (node.Negative z) = []
node_marks at comes (node.Text s) = []
node_marks at comes (node.List n) = []
node_marks at comes node.EndList = []
node_marks at comes (node.Object n) = []
node_marks at comes node.EndObject = []
node_marks at comes (node.Name s) = []
node_marks at comes (node.Id s z) =
    record { at = at + comma_length comes; sort = s; number = z } ∷ []

-- The marks of nodes whose text starts at this place.
abbrev pub nodes_marks : ℕ → Bool → List Node → List Mark
nodes_marks at comes [] = []
nodes_marks at comes (n ∷ rest) = node_marks at comes n
    ++ nodes_marks (at + node_length comes [] n) (ends_value n) rest
