-- Lists of messages that differ only in the numbers of their ids.
use Rattle.dap_tree.specs.Doc.{Doc, id, get}
use Rattle.dap_tree.specs.Ids.{ids, skeleton}
use Rattle.dap_tree.specs.declared.side.Side.{Side}
use Rattle.dap_tree.specs.declared.side.Side.TheVariants.{Client, Adapter}
use Rattle.dap_tree.specs.declared.sort.Sort.{Sort}
use Rattle.dap_tree.specs.declared.sort.Sort.TheVariants.{ClientSeq, AdapterSeq}
use Rattle.std.specs.Prelude.{◌≡◌, ◌↔◌, ℤ, true, List, Option, Some, None, codes}
use Rattle.std.specs.List.{AllZip}
use Rattle.dap_profile.specs.declared.profile.Kind.TheVariants.{Response}
use Rattle.dap_message.specs.Message.{Sent}
use Rattle.dap_message.specs.Rows.{is_of_kind}
use Rattle.dap_session.specs.Messages.{other}

-- The kind of the id, if the member is an id.
abbrev pub id_sort : Option Doc → Option Sort
id_sort (Some (id s z)) = Some s
id_sort _ = None

-- The kind of the sequence numbers of a side: each side counts its own messages (DAP specification,
-- ProtocolMessage.seq).
abbrev pub seq_sort : Side → Sort
seq_sort Client = ClientSeq
seq_sort Adapter = AdapterSeq

-- The `seq` of the message is a sequence number of its side, and the `request_seq` of a response is
-- one of the other side (DAP specification, Response.request_seq).
pub record IsNumbered (m : Sent) : Type 0 where
  pub seq : id_sort (get (codes "seq") m.doc) ≡ Some (seq_sort m.side)
  pub request_seq : is_of_kind Response m.doc ≡ true
      → id_sort (get (codes "request_seq") m.doc) ≡ Some (seq_sort (other m.side))

-- The messages m and n differ only in the numbers of their ids. R relates the two numbers at each
-- path, for the kind of the id (own).
pub record DiffersInIds (R : Sort → ℤ → ℤ → Type 0) (m n : Sent) : Type 0 where
  pub one_side : m.side ≡ n.side
  pub one_skeleton : skeleton m.doc ≡ skeleton n.doc
  pub related : AllZip (λ i j. R i.0 i.1 j.1) (ids m.doc) (ids n.doc)

-- The messages of two lists differ so, pair by pair.
abbrev pub DifferInIds : (Sort → ℤ → ℤ → Type 0) → List Sent → List Sent → Type 0
DifferInIds R ms ns = AllZip (DiffersInIds R) ms ns

-- R relates no sequence number of a side to two numbers, and no two of them to one number. This is
-- not required for ids of other kinds.
abbrev pub IsOneToOne : (Sort → ℤ → ℤ → Type 0) → Type 0
IsOneToOne R = (side : Side) (x y u v : ℤ) → R (seq_sort side) x u → R (seq_sort side) y v → (x ≡ y)
    ↔ (u ≡ v)
