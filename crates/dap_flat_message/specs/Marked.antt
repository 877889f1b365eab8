-- A message that nodes represent, with its ids marked.
use Rattle.std.specs.Prelude.{◌≡◌, List}
use Rattle.dap_tree.specs.{Doc.Doc, declared.side.Side.Side}
use Rattle.dap_profile.specs.ProfileRows.{ProfileRow}
use Rattle.dap_message.specs.AskedRows.{marks_by}
use Rattle.dap_flat.specs.declared.node.Node.{Node}
use Rattle.dap_flat_message.specs.{Places.Locates, declared.members.Envelope.Envelope}

-- The nodes represent f of the document that they represented. Its members have the same places.
abbrev pub Makes : Envelope → List Node → List Node → (Doc → Doc) → Type 0
Makes e old new f = (d : Doc) → Locates old e d → Locates new e (f d)

-- For a loop: marking the document by the remaining rows gives what all rows give from the first
-- document.
abbrev pub AreMarked : List ProfileRow → List ProfileRow → Side → Envelope → List Node → List Node
    → Type 0
AreMarked rows left side e old now = (d : Doc) → Locates old e d
    → (x : Doc) × Locates now e x × (marks_by left side x ≡ marks_by rows side d)
