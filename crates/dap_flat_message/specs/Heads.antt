-- The top members of a message, and its first fault.
use Rattle.std.specs.Prelude.{◌≡◌, ℕ, List, cond, Option, Some, None, option_map, bytes_eq, codes}
use Rattle.std.specs.Borrow.{Bor}
use Rattle.dap_tree.specs.Doc.{Doc, get}
use Rattle.dap_profile.specs.{ProfileRows.ProfileRow, declared.profile.Kind.Kind}
use Rattle.dap_message.specs.AskedRows.{kind_of_tree, name_of_tree, first_by, asked_rows}
use Rattle.dap_message.specs.{Faults.fault, declared.fault.MessageFault.MessageFault}
use Rattle.dap_flat.specs.{declared.node.Node.Node, Pieces.Represents}
use Rattle.dap_flat_message.specs.{Judging.Begins, Places.Locates}
use Rattle.dap_flat_message.specs.declared.members.Envelope.{Envelope}

-- ---- the members of an envelope

-- The places where they start, in a document that the nodes represent.
pub record Tells (ns : List Node) (d : Doc) (e : Envelope) : Type 0 where
  pub type : Begins ns e.kind (get (codes "type") d)
  pub command : Begins ns e.command (get (codes "command") d)
  pub event : Begins ns e.event (get (codes "event") d)
  pub seq : Begins ns e.seq (get (codes "seq") d)
  pub request_seq : Begins ns e.request_seq (get (codes "request_seq") d)
  pub success : Begins ns e.success (get (codes "success") d)

-- For private clauses: the first value of a name is kept.
abbrev pub note : List ℕ → List ℕ → ℕ → Option ℕ → Option ℕ
note k l i (Some j) = Some j
note k l i None = cond (bytes_eq k l) (Some i) None

-- ---- the value at a place

-- It is the value of the document that starts there.
abbrev pub IsValue : {X : Type 0} → List Node → Option ℕ → (Option Doc → X) → X → Type 0
IsValue ns found value x = (d : Option Doc) → Begins ns found d → x ≡ value d

-- It is the value that the function has for the document.
abbrev pub IsTold : {X : Type 0} → List Node → Envelope → (Doc → X) → X → Type 0
IsTold ns e tell x = (d : Doc) → Locates ns e d → x ≡ tell d

abbrev pub text_in : Option (Bor (List ℕ)) → Option (List ℕ)
text_in s = option_map (λ s. s.now) s

-- ---- faults

-- It is the document's first fault by these rows.
abbrev pub IsFirst : List Node → Envelope → List ProfileRow → Option MessageFault → Type 0
IsFirst ns e rows f = (d : Doc) → Locates ns e d → f ≡ first_by rows d

-- For a loop: the remaining rows have the same first fault.
abbrev pub AreRowsLeft : List Node → Envelope → List ProfileRow → List ProfileRow → Type 0
AreRowsLeft ns e rows left = (d : Doc) → Locates ns e d → first_by rows d ≡ first_by left d

-- It is the fault of the document that the nodes represent, if there is one.
abbrev pub IsFault : List Node → Option MessageFault → Type 0
IsFault ns f = (d : Doc) → Represents ns d → f ≡ fault d

-- The document that the nodes represent has this kind, and the name by which rows apply to it.
abbrev pub IsNamed : List Node → Kind → Option (List ℕ) → Type 0
IsNamed ns k n = (d : Doc) → Represents ns d → (kind_of_tree d ≡ Some k) × (name_of_tree k d ≡ n)

-- The document that the nodes represent has a kind, and these rows apply to it.
abbrev pub AreAsked : List Node → List ProfileRow → Type 0
AreAsked ns rs = (d : Doc) → Represents ns d
    → (k : Kind) × (kind_of_tree d ≡ Some k) × (rs ≡ asked_rows d)
