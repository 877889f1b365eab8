-- The first fault of a message that nodes represent.
use Rattle.std.specs.Prelude.{◌≡◌, ℕ, List, [], ◌∷◌, ◌++◌, map, Bool, true, false, Option, Some}
use Rattle.std.specs.{Prelude.{None, option_map, MatchOption}, List.flat_map}
use Rattle.dap_tree.specs.Doc.{Doc, null, list, object, Items, no_items, no_members}
use Rattle.dap_profile.specs.{PlaceSteps.{PlaceStep, named}, declared.profile.Want.Want}
use Rattle.dap_message.specs.Places.{parts_at, elements}
use Rattle.dap_message.specs.Rows.{cause_against, first_cause, broken_at, of_row}
use Rattle.dap_message.specs.declared.fault.MessageFault.{MessageFault}
use Rattle.dap_message.specs.declared.fault.MessageFault.TheVariants as fault
use Rattle.dap_flat.specs.{declared.node.Node.Node, Finding.{Stand, Holds}}
use Rattle.dap_flat.specs.Pieces.{Piece, leaf, begin_list, end_list, begin_object, end_object, name}
use Rattle.dap_flat.specs.Pieces.{items_pieces}
use Rattle.dap_flat_message.specs.{Places.Locates, declared.members.Envelope.Envelope}
use Rattle.dap_flat_message.specs.declared.rows.Broken.{Broken}
use Rattle.dap_flat_message.specs.declared.rows.Broken.TheVariants.{Missing, WrongType}

-- ---- the value at a place

-- The document starts at the place that was found. If no place was found, there is no document.
abbrev pub Begins : List Node → Option ℕ → Option Doc → Type 0
Begins ns found d = MatchOption found (d ≡ None) (λ i. (e : Doc) × (d ≡ Some e) × Holds ns i e)

-- For private clauses: a document that starts with the piece, without its parts.
abbrev pub top_of : Piece → Doc
top_of (leaf d) = d
top_of (begin_list n) = list no_items
top_of end_list = null
top_of (begin_object n) = object no_members
top_of end_object = null
top_of (name k) = null

-- The document is a list.
abbrev pub is_list : Doc → Bool
is_list (list ds) = true
is_list _ = false

-- ---- how a row is broken

-- The fault by the row with that number.
abbrev pub fault_told : ℕ → Broken → MessageFault
fault_told n Missing = fault.Missing n
fault_told n WrongType = fault.WrongType n

abbrev pub reported : ℕ → Option Broken → Option MessageFault
reported n c = option_map (fault_told n) c

-- It is the fault at that path of the document that starts there.
abbrev pub Judges : List Node → ℕ → List PlaceStep → Want → Bool → Option Broken → Type 0
Judges ns at p want needed c = (n : ℕ) (d : Doc) → Holds ns at d
    → reported n c ≡ option_map (of_row n) (broken_at p want needed d)

-- It is the fault at that path of the whole document.
abbrev pub JudgesTop : List Node → Envelope → List PlaceStep → Want → Bool → Option Broken → Type 0
JudgesTop ns e p want needed c = (n : ℕ) (d : Doc) → Locates ns e d
    → reported n c ≡ option_map (of_row n) (broken_at p want needed d)

-- The fault at that path of some items.
abbrev pub items_fault : ℕ → List PlaceStep → Want → Bool → Items → Option MessageFault
items_fault n p want needed ds =
    option_map (of_row n)
    (first_cause (map (cause_against want needed) (flat_map (parts_at p) (elements ds))))

-- It is the fault at that path of the items that start there.
abbrev pub JudgesItems : List Node → ℕ → List PlaceStep → Want → Bool → Option Broken → Type 0
JudgesItems ns from p want needed c = (n : ℕ) (ds : Items)
    → Stand ns from (items_pieces ds ++ end_list ∷ []) → reported n c
    ≡ items_fault n p want needed ds

-- The path of a part of an item, or of the item itself.
abbrev pub part_steps : Option (List ℕ) → List PlaceStep
part_steps None = []
part_steps (Some k) = named k ∷ []

-- For a loop: the items before p have no fault.
pub record ItemsLeft (ns : List Node) (p : ℕ) (place : List PlaceStep) (want : Want) (needed : Bool)
    (ds : Items) : Type 0 where
  pub left : Items
  pub holds : Stand ns p (items_pieces left ++ end_list ∷ [])
  pub alike : (n : ℕ)
      → items_fault n place want needed ds ≡ items_fault n place want needed left

abbrev pub AreItemsLeft : List Node → ℕ → ℕ → List PlaceStep → Want → Bool → Type 0
AreItemsLeft ns from p place want needed = (ds : Items)
    → Stand ns from (items_pieces ds ++ end_list ∷ [])
    → ItemsLeft ns p place want needed ds
