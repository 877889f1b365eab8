-- Where the members of a message start among its nodes (own): each name that rows look at, its
-- member's place in a document, and the envelope that notes these places.
use Rattle.std.specs.Prelude.{◌≡◌, ℕ, ◌+◌, List, Option, Some, None, option_map, length, codes}
use Rattle.std.specs.{Ordering.{nat_cmp, match_ordering}, Cmp.Lexicographic.slice_cmp}
use Rattle.std.specs.Option.{option_or}
use Rattle.dap_tree.specs.Doc.{Doc, null, boolean, whole, text, list, object, id, Members}
use Rattle.dap_tree.specs.Doc.{no_members, member, get, change_child}
use Rattle.dap_flat.specs.{declared.node.Node.Node, Finding.{HoldsMembers, Finds}}
use Rattle.dap_flat.specs.Pieces.{pieces, Represents}
use Rattle.dap_flat_message.specs.{declared.members.Envelope.Envelope, declared.members.Key.Key}
use Rattle.dap_flat_message.specs.declared.members.Key.TheVariants as key

-- ---- places in a document

abbrev pub place_after : Doc → Option ℕ → Option ℕ
place_after e found = option_map (λ i. 1 + length (pieces e) + i) found

-- The number of pieces before the value of the first member of that name.
abbrev pub place_in : List ℕ → Members → Option ℕ
place_in k no_members = None
place_in k (member l e ms) =
    match_ordering (slice_cmp nat_cmp k l) (place_after e (place_in k ms)) (Some 1)
    (place_after e (place_in k ms))

-- The same for a document. The first piece of an object is its start.
abbrev pub place_of : List ℕ → Doc → Option ℕ
place_of k null = None
place_of k (boolean b) = None
place_of k (whole z) = None
place_of k (text s) = None
place_of k (list ds) = None
place_of k (object ms) = option_map (λ i. 1 + i) (place_in k ms)
place_of k (id s z) = None

-- ---- the envelope

-- The name of a member (DAP specification, ProtocolMessage, Request, Event and Response).
abbrev pub word : Key → List ℕ
word key.Kind = codes "type"
word key.Command = codes "command"
word key.Event = codes "event"
word key.Seq = codes "seq"
word key.RequestSeq = codes "request_seq"
word key.Success = codes "success"
word key.Message = codes "message"
word key.Arguments = codes "arguments"
word key.Body = codes "body"

abbrev pub place_at : Key → Envelope → Option ℕ
place_at key.Kind e = e.kind
place_at key.Command e = e.command
place_at key.Event e = e.event
place_at key.Seq e = e.seq
place_at key.RequestSeq e = e.request_seq
place_at key.Success e = e.success
place_at key.Message e = e.message
place_at key.Arguments e = e.arguments
place_at key.Body e = e.body

abbrev pub put_at : Key → Option ℕ → Envelope → Envelope
put_at key.Kind found e = record e { kind = found }
put_at key.Command found e = record e { command = found }
put_at key.Event found e = record e { event = found }
put_at key.Seq found e = record e { seq = found }
put_at key.RequestSeq found e = record e { request_seq = found }
put_at key.Success found e = record e { success = found }
put_at key.Message found e = record e { message = found }
put_at key.Arguments found e = record e { arguments = found }
put_at key.Body found e = record e { body = found }

-- The envelope has the places of the document's members.
abbrev pub HasPlaces : Envelope → Doc → Type 0
HasPlaces e d = (k : Key) → place_at k e ≡ place_of (word k) d

-- It has those of the document that the nodes represent.
abbrev pub IsEnvelope : List Node → Envelope → Type 0
IsEnvelope ns e = (d : Doc) → Represents ns d → HasPlaces e d

-- The nodes represent the document, and the envelope has the places of its members.
pub record Locates (ns : List Node) (e : Envelope) (d : Doc) : Type 0 where
  pub shows : Represents ns d
  pub places : HasPlaces e d

-- The member of that name is found in the document.
abbrev pub FindsTop : List Node → Envelope → List ℕ → Option ℕ → Type 0
FindsTop ns e k found = (d : Doc) → Locates ns e d
    → Finds ns 0 (pieces d) (λ f. pieces (change_child k f d)) found (get k d)

-- ---- for a loop

-- The place of a name is the one found, or else among the members that are left at p.
abbrev pub KeyLeft : ℕ → List ℕ → Members → Members → Option ℕ → Type 0
KeyLeft p k ms left found =
    option_map (λ i. 1 + i) (place_in k ms)
    ≡ option_or found (option_map (λ i. p + i) (place_in k left))

pub record EnvelopeLeft (ns : List Node) (p : ℕ) (ms : Members) (e : Envelope) : Type 0 where
  pub left : Members
  pub holds : HoldsMembers ns p left
  pub keys : (k : Key) → KeyLeft p (word k) ms left (place_at k e)

abbrev pub IsEnvelopeLeft : List Node → ℕ → Envelope → Type 0
IsEnvelopeLeft ns p e = (ms : Members) → HoldsMembers ns 1 ms → EnvelopeLeft ns p ms e
