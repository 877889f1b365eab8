-- The message that a stored content represents (own).
use Rattle.std.specs.{Prelude.{ℕ, ℤ, pos, List}, Option.option_map_or}
use Rattle.serde_json.specs.Data.{Num, unsigned, negative, float}
use Rattle.serde_json.specs.Data as json
use Rattle.serde_json.specs.Read.{read}
use Rattle.dap_tree.specs.Doc.{Doc, null, boolean, whole, text, list, object, Items, no_items, item}
use Rattle.dap_tree.specs.{Doc.{Members, no_members, member}, declared.side.Side.Side}
use Rattle.dap_message.specs.Message.{Sent, message_of, IsTypedContent}

-- The integer that a number is. No float is an integer here: a document has none.
abbrev pub integer_of : Num → ℤ
integer_of (unsigned n) = pos n
integer_of (negative z) = z
integer_of (float x) = pos 0

-- The document without ids that is written as this value: the inverse of `data_of`.
abbrev mutual
  pub document_from : json.Data → Doc
  document_from json.null = null
  document_from (json.boolean b) = boolean b
  document_from (json.number n) = whole (integer_of n)
  document_from (json.string s) = text s
  document_from (json.array ds) = list (items_from ds)
  document_from (json.object ms) = object (members_from ms)

  pub items_from : json.Items → Items
  items_from json.no_items = no_items
  items_from (json.item d ds) = item (document_from d) (items_from ds)

  pub members_from : json.Members → Members
  members_from json.no_members = no_members
  members_from (json.member k d ms) = member k (document_from d) (members_from ms)

-- The document of the message of this side that has this content: the document that the content is
-- read as, typed by the profile.
unfoldable pub doc_in : Side → List ℕ → Doc
doc_in side content = message_of side (option_map_or document_from (read content) null)

-- The message of this side with this content.
abbrev pub message_in : Side → List ℕ → Sent
message_in side content = record { side = side; doc = doc_in side content }

-- Some content is read and typed as the message. This holds for what `read_flat_message` returns,
-- and for a tree that is read from a content and typed.
abbrev pub IsOfContent : Sent → Type 0
IsOfContent m = (bytes : List ℕ) × IsTypedContent m.side bytes m.doc
