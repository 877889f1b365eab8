-- Documents and the JSON values of `serde_json`, and how a content is read.
use Rattle.std.specs.Prelude.{◌≡◌, List, ℕ, Bool, true, false, Some, IsUtf8}
use Rattle.serde_json.specs.Data as json
use Rattle.serde_json.specs.Find.{of_integer}
use Rattle.serde_json.specs.Read.{read}
use Rattle.serde_json.specs.Written.{compact_text, has_float, items_have_float, members_have_float}
use Rattle.dap_tree.specs.Doc.{Doc, null, boolean, whole, text, list, object, id, Items, no_items}
use Rattle.dap_tree.specs.Doc.{item, Members, no_members, member, has_id, items_have_id}
use Rattle.dap_tree.specs.Doc.{members_have_id}
use Rattle.dap_tree.specs.declared.fault.TreeFault.{TreeFault}
use Rattle.dap_tree.specs.declared.fault.TreeFault.TheVariants.{Json, Fraction, Memory}

-- The JSON value that a document is written as. An id is written as its number.
abbrev mutual
  pub data_of : Doc → json.Data
  data_of null = json.null
  data_of (boolean b) = json.boolean b
  data_of (whole z) = json.number (of_integer z)
  data_of (text s) = json.string s
  data_of (list ds) = json.array (items_data ds)
  data_of (object ms) = json.object (members_data ms)
  data_of (id s z) = json.number (of_integer z)

  pub items_data : Items → json.Items
  items_data no_items = json.no_items
  items_data (item d ds) = json.item (data_of d) (items_data ds)

  pub members_data : Members → json.Members
  members_data no_members = json.no_members
  members_data (member k d ms) = json.member k (data_of d) (members_data ms)

-- The compact text of a document (serde_json): without spaces, with members in the byte order of
-- their names.
abbrev pub text_of : Doc → List ℕ
text_of d = compact_text (data_of d)

-- ---- reading a content

-- The content is UTF-8, and is JSON text of this value (serde_json). At most 127 levels are
-- allowed, and the last of several members of the same name counts.
abbrev pub Reads : List ℕ → json.Data → Type 0
Reads bytes d = IsUtf8 bytes × (read bytes ≡ Some d)

-- The content is JSON text of this document: every number is an integer, and there is no id.
abbrev pub IsRead : List ℕ → Doc → Type 0
IsRead bytes d = Reads bytes (data_of d) × (has_id d ≡ false)

-- The content is not JSON text.
abbrev pub HasNoReading : List ℕ → Type 0
HasNoReading bytes = (d : json.Data) → Reads bytes d → ⊥

-- The content is JSON text in which some number is not an integer of 64 bits: serde_json reads it
-- as a float.
abbrev pub HasFraction : List ℕ → Type 0
HasFraction bytes = (d : json.Data) × Reads bytes d × (has_float d ≡ true)

-- The possible outcomes of reading a content (own).
pub data Outcome : Type 0 where
  document : Doc → Outcome
  no_reading : Outcome
  fraction : Outcome

abbrev pub HasOutcome : List ℕ → Outcome → Type 0
HasOutcome bytes (document d) = IsRead bytes d
HasOutcome bytes no_reading = HasNoReading bytes
HasOutcome bytes fraction = HasFraction bytes

-- What an error implies for the content. `Memory` implies nothing.
abbrev pub ExplainsText : List ℕ → TreeFault → Type 0
ExplainsText bytes Json = HasNoReading bytes
ExplainsText bytes Fraction = HasFraction bytes
ExplainsText bytes Memory = Unit {0}

-- What an error implies for the outcome of the content.
abbrev pub FaultMatches : Outcome → TreeFault → Type 0
FaultMatches o Json = o ≡ no_reading
FaultMatches o Fraction = o ≡ fraction
FaultMatches o Memory = Unit {0}

-- ---- for private clauses: a document and the value that it was read from

abbrev pub ValueMatches : json.Data → Doc → Type 0
ValueMatches v d = (v ≡ data_of d) × (has_id d ≡ false)

abbrev pub ItemsMatch : json.Items → Items → Type 0
ItemsMatch vs ds = (vs ≡ items_data ds) × (items_have_id ds ≡ false)

abbrev pub MembersMatch : json.Members → Members → Type 0
MembersMatch vs ms = (vs ≡ members_data ms) × (members_have_id ms ≡ false)

-- What an error implies for a value: whether it has a float.
abbrev pub Explains : Bool → TreeFault → Type 0
Explains float Json = ⊥
Explains float Fraction = float ≡ true
Explains float Memory = Unit {0}

abbrev pub ExplainsData : json.Data → TreeFault → Type 0
ExplainsData v = Explains (has_float v)

abbrev pub ExplainsItems : json.Items → TreeFault → Type 0
ExplainsItems vs = Explains (items_have_float vs)

abbrev pub ExplainsMembers : json.Members → TreeFault → Type 0
ExplainsMembers vs = Explains (members_have_float vs)
