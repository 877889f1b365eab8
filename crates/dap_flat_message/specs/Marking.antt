-- A part of a flat document that is changed in its place.
use Rattle.std.specs.Prelude.{◌≡◌, ℕ, ◌+◌, List, [], ◌∷◌, ◌++◌, map, length}
use Rattle.dap_tree.specs.{declared.sort.Sort.Sort, Doc.{Doc, Items, no_items, item, map_items}}
use Rattle.dap_profile.specs.PlaceSteps.{PlaceStep, named, each}
use Rattle.dap_message.specs.Marks.{marked}
use Rattle.dap_flat.specs.{declared.node.Node.Node, Finding.{Stand, Holds}}
use Rattle.dap_flat.specs.Pieces.{Piece, leaf, begin_list, end_list, begin_object, end_object, name}
use Rattle.dap_flat.specs.Pieces.{piece_of, pieces, items_pieces}
use Rattle.dap_flat_message.specs.declared.marks.Step.{Step}
use Rattle.dap_flat_message.specs.declared.marks.Step.TheVariants.{Name, Each}

-- The pieces that start there are replaced by the same number of others. Nothing else is changed.
pub record Replaced (old new : List Node) (at : ℕ) (ps qs : List Piece) : Type 0 where
  pub front : List Node
  pub inside : List Node
  pub put : List Node
  pub behind : List Node
  pub was : old ≡ front ++ (inside ++ behind)
  pub is : new ≡ front ++ (put ++ behind)
  pub here : at ≡ length front
  pub showed : map piece_of inside ≡ ps
  pub shows : map piece_of put ≡ qs
  pub long : length qs ≡ length ps

-- The document that starts there is changed by f.
abbrev pub Edits : List Node → List Node → ℕ → (Doc → Doc) → Type 0
Edits old new at f = (d : Doc) → Holds old at d → Replaced old new at (pieces d) (pieces (f d))

-- The items that start there are changed by f. The end of their list comes after them.
abbrev pub EditsItems : List Node → List Node → ℕ → (Doc → Doc) → Type 0
EditsItems old new at f = (ds : Items) → Stand old at (items_pieces ds ++ end_list ∷ [])
    → Replaced old new at (items_pieces ds ++ end_list ∷ [])
    (items_pieces (map_items f ds) ++ end_list ∷ [])

abbrev pub step_of : Step → PlaceStep
step_of (Name a) = named a.now
step_of Each = each

abbrev pub steps : List Step → List PlaceStep
steps path = map step_of path

-- The items, and others after them.
abbrev pub joined : Items → Items → Items
joined no_items es = es
joined (item d ds) es = item d (joined ds es)

-- For a loop: the items before p are changed.
pub record SoFar (old now : List Node) (from p : ℕ) (f : Doc → Doc) (ds : Items) : Type 0 where
  pub done : Items
  pub left : Items
  pub all : ds ≡ joined done left
  pub here : p ≡ from + length (items_pieces (map_items f done))
  pub replaced : Replaced old now from (items_pieces ds ++ end_list ∷ [])
      (items_pieces (joined (map_items f done) left) ++ end_list ∷ [])

abbrev pub IsSoFar : List Node → List Node → ℕ → ℕ → (Doc → Doc) → Type 0
IsSoFar old now from p f = (ds : Items) → Stand old from (items_pieces ds ++ end_list ∷ [])
    → SoFar old now from p f ds

abbrev pub marked_piece : Sort → Piece → Piece
marked_piece s (leaf d) = leaf (marked s d)
marked_piece s (begin_list n) = begin_list n
marked_piece s end_list = end_list
marked_piece s (begin_object n) = begin_object n
marked_piece s end_object = end_object
marked_piece s (name k) = name k
