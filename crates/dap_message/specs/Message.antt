-- The model of a message: its side and its document, and when a document is typed as another.
use Rattle.dap_tree.specs.Doc.{Doc, is_plain}
use Rattle.dap_tree.specs.Ids.{skeleton}
use Rattle.dap_tree.specs.Json.{IsRead, HasNoReading, HasFraction}
use Rattle.dap_tree.specs.View.{view}
use Rattle.dap_tree.specs.declared.side.Side.{Side}
use Rattle.dap_tree.specs.declared.sort.Sort.{Sort}
use Rattle.std.specs.Prelude.{◌≡◌, ℕ, ℤ, List, Some, true}
use Rattle.dap_profile.specs.Profile.{profile}
use Rattle.dap_profile.specs.ProfileRows.{ProfileRow}
use Rattle.dap_message.specs.Capabilities.{filled}
use Rattle.dap_message.specs.Faults.{fault, Fits, FitsRows}
use Rattle.dap_message.specs.Marks.{IsMarked, mark_by_rows}
use Rattle.dap_message.specs.Numbers.{has_id_numbers}
use Rattle.dap_message.specs.declared.fault.MessageFault.{MessageFault}
use Rattle.dap_message.specs.declared.fault.MessageFault.TheVariants.{NotObject, UnknownType}
use Rattle.dap_message.specs.declared.fault.MessageFault.TheVariants.{Missing, WrongType, Memory}
use Rattle.dap_message.specs.declared.ids.IdList.{IdList}
use Rattle.dap_message.specs.declared.message.Message.{Message}

-- The side that sent a message.
abbrev pub side_of : Message → Side
side_of m = m.side

-- The document that the tree of a message represents.
abbrev pub doc_of : Message → Doc
doc_of m = view m.tree

-- The model of a message in the crates above: the side that sent it, and its document.
pub record Sent : Type 0 where
  pub side : Side
  pub doc : Doc

abbrev pub sent : Message → Sent
sent m = record { side = side_of m; doc = doc_of m }

-- The ids in an `IdList`.
abbrev pub list_of_ids : IdList → List (Sort × ℤ)
list_of_ids l = l.ids.items

-- ---- by a list of rows

-- The document of the message that d is for this side by these rows: d with its capabilities filled
-- in and its ids marked.
abbrev pub message_by_rows : List ProfileRow → Side → Doc → Doc
message_by_rows rows side d = mark_by_rows rows side (filled side d)

-- The document d is typed for this side by these rows as the document m.
abbrev pub IsTypedByRows : List ProfileRow → Side → Doc → Doc → Type 0
IsTypedByRows rows side d m = FitsRows rows d × (m ≡ message_by_rows rows side d)

-- By these rows, the content is that of a message from this side with the document m.
abbrev pub IsTypedContentByRows : List ProfileRow → Side → List ℕ → Doc → Type 0
IsTypedContentByRows rows side bytes m =
    (d : Doc) × IsRead bytes d × IsTypedByRows rows side d m

-- ---- by the profile

-- The document of the message that d is for this side: d with its capabilities filled in and its
-- ids marked.
abbrev pub message_of : Side → Doc → Doc
message_of side d = message_by_rows profile side d

-- The document d is typed for this side as the document m.
abbrev pub IsTyped : Side → Doc → Doc → Type 0
IsTyped side d m = IsTypedByRows profile side d m

-- The content is that of a message from this side with the document m.
abbrev pub IsTypedContent : Side → List ℕ → Doc → Type 0
IsTypedContent side bytes m = IsTypedContentByRows profile side bytes m

-- The content is that of the message m, provided that m is typed from some document.
abbrev pub IsTypedBack : Side → Doc → List ℕ → Type 0
IsTypedBack side m bytes = (d : Doc) → is_plain d ≡ true → IsTyped side d m
    → IsTypedContent side bytes m

-- The content is that of the message n. This is claimed only if n differs from a typed message
-- only in the numbers of its ids, all of which are valid for their kinds.
abbrev pub IsRenumberedBack : Side → Doc → List ℕ → Type 0
IsRenumberedBack side n bytes = (d m : Doc) → is_plain d ≡ true → IsTyped side d m
    → skeleton n ≡ skeleton m → has_id_numbers n ≡ true → IsTypedContent side bytes n

-- Why a content is not a message (own): it is not JSON, a number in it is not an integer of 64
-- bits, or its document has an error.
pub data Refusal : Type 0 where
  no_reading : Refusal
  fraction : Refusal
  faulty : MessageFault → Refusal

-- The content is rejected for that reason.
abbrev pub HasRefusal : List ℕ → Refusal → Type 0
HasRefusal bytes no_reading = HasNoReading bytes
HasRefusal bytes fraction = HasFraction bytes
HasRefusal bytes (faulty f) = (d : Doc) × IsRead bytes d × (fault d ≡ Some f)

-- m is the message that d is for this side.
abbrev pub IsTypedAs : Side → Doc → Message → Type 0
IsTypedAs side d m = (side_of m ≡ side) × Fits d × (doc_of m ≡ message_of side d)

-- m has the tree of d with its capabilities filled in, and exactly the ids that the rows define,
-- path by path.
abbrev pub HasIdsByPath : Side → Doc → Message → Type 0
HasIdsByPath side d m = IsMarked profile side (filled side d) (doc_of m)

-- The error is the first error of d. `Memory` implies nothing about d.
abbrev pub Refuses : Doc → MessageFault → Type 0
Refuses d NotObject = fault d ≡ Some NotObject
Refuses d UnknownType = fault d ≡ Some UnknownType
Refuses d (Missing n) = fault d ≡ Some (Missing n)
Refuses d (WrongType n) = fault d ≡ Some (WrongType n)
Refuses d Memory = Unit {0}
