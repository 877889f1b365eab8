-- The nodes of a document that is typed as a message.
use Rattle.std.specs.Prelude.{◌≡◌, ℕ, List, Bool, false, Option, Some, None, bytes_eq, codes}
use Rattle.std.specs.Option.{option_map_or}
use Rattle.dap_tree.specs.{Doc.Doc, declared.side.Side.Side}
use Rattle.dap_tree.specs.declared.side.Side.TheVariants.{Client, Adapter}
use Rattle.dap_profile.specs.declared.profile.Kind.{Kind}
use Rattle.dap_profile.specs.declared.profile.Kind.TheVariants.{Request, Response, Event}
use Rattle.dap_message.specs.{Faults.{fault, Fits}, Message.message_of}
use Rattle.dap_message.specs.declared.fault.MessageFault.{MessageFault}
use Rattle.dap_flat.specs.{declared.node.Node.Node, Pieces.Represents}
use Rattle.dap_flat_message.specs.{Places.HasPlaces, declared.members.Envelope.Envelope}

-- Without a fault, the document fits the profile, and the nodes represent the message that it is on
-- this side. Otherwise the fault is the document's first.
abbrev pub IsTypedFlat : Side → List Node → List Node → Option MessageFault → Type 0
IsTypedFlat side old new None =
    (d : Doc) → Represents old d → Fits d × Represents new (message_of side d)
IsTypedFlat side old new (Some f) = (d : Doc) → Represents old d → fault d ≡ Some f

-- Without a fault, the envelope of the document is also that of the message.
abbrev pub KeepsPlaces : Side → List Node → Envelope → Option MessageFault → Type 0
KeepsPlaces side old e None = (d : Doc) → Represents old d → HasPlaces e (message_of side d)
KeepsPlaces side old e (Some f) = Unit {0}

-- The fault is the first of the document that the nodes represent.
abbrev pub HasFault : List Node → MessageFault → Type 0
HasFault ns f = (d : Doc) → Represents ns d → fault d ≡ Some f

-- For private clauses: a message of this kind and name may report capabilities.
abbrev pub may_tell : Side → Kind → Option (List ℕ) → Bool
may_tell Client k n = false
may_tell Adapter Request n = false
may_tell Adapter Response n = option_map_or (bytes_eq (codes "initialize")) n false
may_tell Adapter Event n = false
