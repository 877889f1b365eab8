-- Contents whose non-integer numbers are rejected only after masking.
use Rattle.std.specs.Prelude.{◌≡◌, ◌↔◌, ℕ, ◌^◌, ℤ, pos, true, false, List, Option, Some, None}
use Rattle.serde_json.specs.Data as json
use Rattle.serde_json.specs.Data.{Num, unsigned, negative, float}
use Rattle.dap_tree.specs.Doc.{Doc, null, boolean, whole, text, list, object, Items, no_items, item}
use Rattle.dap_tree.specs.Doc.{Members, no_members, member, is_sound, is_ordered}
use Rattle.dap_tree.specs.Json.{Reads, IsRead, HasNoReading, text_of}
use Rattle.dap_tree.specs.declared.fault.TreeFault.{TreeFault, TheVariants.{Json, Fraction, Memory}}
use Rattle.dap_mask.specs.Fills.{filled, AreFillsUtf8}
use Rattle.dap_mask.specs.{Mask.{Mask, no_rules, leaves_out}, Redacted.redacted}
use Rattle.dap_words.specs.{Words.AreUtf8, Worded.worded_message}

-- An integer that is out of range and represents each number that is not an integer of 64 bits.
abbrev pub no_whole : ℤ
no_whole = pos (2 ^ 64)

abbrev pub loose_number : Num → ℤ
loose_number (unsigned n) = pos n
loose_number (negative z) = z
loose_number (float x) = no_whole

-- The document of a JSON value (own), with `no_whole` for each number that is not an integer of 64
-- bits.
abbrev mutual
  pub loose : json.Data → Doc
  loose json.null = null
  loose (json.boolean b) = boolean b
  loose (json.number n) = whole (loose_number n)
  loose (json.string s) = text s
  loose (json.array vs) = list (loose_items vs)
  loose (json.object ms) = object (loose_members ms)

  pub loose_items : json.Items → Items
  loose_items json.no_items = no_items
  loose_items (json.item v vs) = item (loose v) (loose_items vs)

  pub loose_members : json.Members → Members
  loose_members json.no_members = no_members
  loose_members (json.member k v ms) = member k (loose v) (loose_members ms)

-- The content is JSON text, and this is its document, with `no_whole` for each number that is not
-- an integer of 64 bits.
abbrev pub IsReadLoosely : List ℕ → Doc → Type 0
IsReadLoosely bytes d = (v : json.Data) × Reads bytes v × (d ≡ loose v)

-- The content is JSON text, and this is its document before the other rules apply (own): with the
-- words of the mask in the place of texts, and then with the members that its rules set.
abbrev pub IsReadBy : Mask → List ℕ → Doc → Type 0
IsReadBy mask bytes d = (raw : Doc) × IsReadLoosely bytes raw
    × (d ≡ filled mask.fills (worded_message mask.words raw))

-- The result of masking a document (own): `None` for an event that the rules drop, and otherwise
-- the redacted document, which must be serialisable.
abbrev pub IsLeft : Mask → Doc → Option Doc → Type 0
IsLeft mask d None = leaves_out mask d ≡ true
IsLeft mask d (Some e) = (leaves_out mask d ≡ false) × (e ≡ redacted mask d) × (is_sound e ≡ true)

-- The document is not dropped, and a non-integer number remains in the redacted document.
abbrev pub HasFractionLeft : Mask → Doc → Type 0
HasFractionLeft mask d = (leaves_out mask d ≡ false) × (is_sound (redacted mask d) ≡ false)

-- The content is JSON text, and this is the result of masking it, after the words were put in and
-- members were set.
abbrev pub IsLeftOf : Mask → List ℕ → Option Doc → Type 0
IsLeftOf mask bytes o = (d : Doc) × IsReadBy mask bytes d × IsLeft mask d o

-- The content is JSON text, and a non-integer number remains after masking.
abbrev pub LeavesFraction : Mask → List ℕ → Type 0
LeavesFraction mask bytes = (d : Doc) × IsReadBy mask bytes d × HasFractionLeft mask d

-- Without rules, the result is the document that the content represents.
abbrev pub UnmaskedIsRead : Type 0
UnmaskedIsRead = (bytes : List ℕ) (d : Doc) → IsLeftOf no_rules bytes (Some d) ↔ IsRead bytes d

-- Each content represents at most one document.
abbrev pub OneLooseReading : Type 0
OneLooseReading = (bytes : List ℕ) (d e : Doc) → IsReadLoosely bytes d → IsReadLoosely bytes e
    → d ≡ e

-- The members of this document are in order.
abbrev pub LooseIsOrdered : Type 0
LooseIsOrdered = (bytes : List ℕ) (d : Doc) → IsReadLoosely bytes d → is_ordered d ≡ true

-- The text of the masked document is read as the same document. Words and values that a program has
-- are UTF-8.
abbrev pub LeftIsRead : Type 0
LeftIsRead = (mask : Mask) (bytes : List ℕ) (d : Doc) → AreUtf8 mask.words
    → AreFillsUtf8 mask.fills → IsLeftOf mask bytes (Some d) → IsRead (text_of d) d

-- The meaning of an error for a content that is masked. `Memory` states nothing about the content.
abbrev pub ExplainsMasked : Mask → List ℕ → TreeFault → Type 0
ExplainsMasked mask bytes Json = HasNoReading bytes
ExplainsMasked mask bytes Fraction = LeavesFraction mask bytes
ExplainsMasked mask bytes Memory = Unit {0}

-- For private clauses: the meaning of an error before masking.
abbrev pub ExplainsLoosely : List ℕ → TreeFault → Type 0
ExplainsLoosely bytes Json = HasNoReading bytes
ExplainsLoosely bytes Fraction = ⊥
ExplainsLoosely bytes Memory = Unit {0}
