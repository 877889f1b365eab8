-- The first fault of a document of a kind and a name.
use Rattle.std.proofs.Common.{◌≡◌, ℕ, List, true, false, cond, Option, Some, None, refl, sym, ap}
use Rattle.std.proofs.Common.{◌∙◌, get_or}
use Rattle.dap_tree.specs.Doc.{Doc, null, boolean, whole, text, list, object, id}
use Rattle.dap_profile.specs.ProfileRows.{ProfileRow}
use Rattle.dap_profile.specs.RowRanges.{rows_asked}
use Rattle.dap_profile.specs.declared.profile.Kind.{Kind}
use Rattle.dap_message.specs.AskedRows.{kind_of_tree, first_by}
use Rattle.dap_message.specs.Faults.{has_kind, row_broken}
use Rattle.dap_message.specs.Places.{is_object}
use Rattle.dap_message.specs.declared.fault.MessageFault.{MessageFault}
use Rattle.dap_message.specs.declared.fault.MessageFault.TheVariants.{NotObject, UnknownType}
use Rattle.dap_message.proofs.AskedRows.{asked-rows, any_name, fault-asked, fault-kindless}
use Rattle.dap_flat.specs.declared.node.Node.{Node}
use Rattle.dap_flat.specs.Pieces.{piece_of, Represents}
use Rattle.dap_flat_message.specs.Judging.{top_of}
use Rattle.dap_flat_message.specs.Heads.{IsFirst, IsFault, IsNamed, AreAsked, Tells}
use Rattle.dap_flat_message.specs.Places.{IsEnvelope}
use Rattle.dap_flat_message.specs.declared.members.Envelope.{Envelope}
use Rattle.dap_flat_message.proofs.Tops.{top_there, is_object-top}
use Rattle.dap_flat_message.proofs.Heads.{holds_whole}
use Rattle.dap_flat_message.proofs.Located.{tells}

object_of_kind : (d : Doc) (k : Kind) → kind_of_tree d ≡ Some k → is_object d ≡ true
object_of_kind null k h = absurd (cc)
object_of_kind (boolean b) k h = absurd (cc)
object_of_kind (whole z) k h = absurd (cc)
object_of_kind (text s) k h = absurd (cc)
object_of_kind (list ds) k h = absurd (cc)
object_of_kind (object ms) k h = refl
object_of_kind (id s z) k h = absurd (cc)

pub tells_whole : (ns : List Node) (e : Envelope) → IsEnvelope ns e → (d : Doc) → Represents ns d
    → Tells ns d e
tells_whole ns e places d shows = tells ns e d record { shows = shows; places = places d shows }

pub asked_fault : (ns : List Node) (e : Envelope) (rs : List ProfileRow) (f : Option MessageFault)
    → AreAsked ns rs → IsEnvelope ns e → IsFirst ns e rs f → IsFault ns f
asked_fault ns e rs f asked places first d shows =
    let reported = asked d shows in
    first d record { shows = shows; places = places d shows } ∙ ap (λ rs. first_by rs d) reported.2
    ∙ sym (fault-asked d reported.0 (object_of_kind d reported.0 reported.1) reported.1)

pub named_asked : (ns : List Node) (k : Kind) (n : Option (List ℕ)) (rs : List ProfileRow)
    → rs ≡ rows_asked (Some k) n → IsNamed ns k n → AreAsked ns rs
named_asked ns k n rs is named d shows =
    let reported = named d shows in (
      k,
      reported.0,
      is ∙ sym (asked-rows d ∙ ap (λ j. rows_asked j (any_name j d)) reported.0
          ∙ ap (rows_asked (Some k)) reported.1),
    )

object_there : (ns : List Node) (x : Node) (d : Doc) → Represents ns d
    → is_object (top_of (piece_of (get_or ns 0 x))) ≡ is_object d
object_there ns x d shows =
    ap is_object (top_there ns 0 d (get_or ns 0 x) x (holds_whole ns d shows) refl)
    ∙ is_object-top d

pub not_object : (ns : List Node) (x : Node)
    → is_object (top_of (piece_of (get_or ns 0 x))) ≡ false → IsFault ns (Some NotObject)
not_object ns x is d shows =
    sym (ap (λ b. cond b (cond (has_kind d) (row_broken d) (Some UnknownType)) (Some NotObject))
    (sym (object_there ns x d shows) ∙ is))

pub kindless : (ns : List Node) (x : Node)
    → is_object (top_of (piece_of (get_or ns 0 x))) ≡ true
    → ((d : Doc) → Represents ns d → kind_of_tree d ≡ None) → IsFault ns (Some UnknownType)
kindless ns x is none d shows =
    sym (fault-kindless d (sym (object_there ns x d shows) ∙ is) (none d shows))
