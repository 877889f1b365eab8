-- The message that a flat message is.
use Rattle.std.specs.Prelude.{◌≡◌, ℕ, List}
use Rattle.dap_tree.specs.{Doc.Doc, declared.side.Side.Side}
use Rattle.dap_message.specs.Message.{Sent, IsTypedContent, HasRefusal, faulty}
use Rattle.dap_flat_message.specs.{Document.document_of, declared.message.FlatMessage.FlatMessage}
use Rattle.dap_flat_message.specs.declared.reading.FlatFault.{FlatFault}
use Rattle.dap_flat_message.specs.declared.reading.FlatFault.TheVariants.{Memory, Unclear, Message}
use Rattle.dap_flat.specs.{Reading.ReadsDocument, declared.node.Node.Node}
use Rattle.dap_flat.specs.declared.unread.Unread.{Unread}
use Rattle.dap_flat.specs.declared.unread.Unread.TheVariants as unread

-- The side that sent it.
abbrev pub flat_side : FlatMessage → Side
flat_side m = m.side

-- The document that its nodes represent.
abbrev pub flat_doc : FlatMessage → Doc
flat_doc m = document_of m.nodes.items

-- The message, as the crates above speak of it.
abbrev pub flat_sent : FlatMessage → Sent
flat_sent m = record { side = flat_side m; doc = flat_doc m }

-- Some content is read as the document that the nodes represent.
abbrev pub AreRead : List Node → Type 0
AreRead ns = (bytes : List ℕ) × ReadsDocument bytes ns

-- The content is that of a message of this side, and m is the message.
abbrev pub IsFlatMessage : Side → List ℕ → FlatMessage → Type 0
IsFlatMessage side bytes m = (flat_side m ≡ side) × IsTypedContent side bytes (flat_doc m)

-- The content is JSON with that fault. The other causes say nothing of the content.
abbrev pub RefusesContent : List ℕ → FlatFault → Type 0
RefusesContent bytes (Message f) = HasRefusal bytes (faulty f)
RefusesContent bytes Memory = Unit {0}
RefusesContent bytes Unclear = Unit {0}

-- The cause is not a fault of the content.
abbrev pub IsNoVerdict : FlatFault → Type 0
IsNoVerdict f = (bytes : List ℕ) → RefusesContent bytes f

-- The content was not read as a document for this cause, so it is not read as a message either.
abbrev pub IsCausedBy : Unread → FlatFault → Type 0
IsCausedBy cause f = IsNoVerdict f × (f ≡ Memory → cause ≡ unread.Memory)
