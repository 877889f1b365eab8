-- Messages that report no capabilities.
use Rattle.std.proofs.Common.{◌≡◌, ℕ, List, Bool, true, false, cond, ◌&&◌, Option, Some, None, refl}
use Rattle.std.proofs.Common.{sym}
use Rattle.std.proofs.Common.{ap, ◌∙◌, bytes_eq, codes, subst}
use Rattle.std.specs.Option.{option_map_or}
use Rattle.dap_tree.specs.Doc.{Doc, null, boolean, whole, text, list, object, id, get}
use Rattle.dap_tree.specs.declared.side.Side.{Side}
use Rattle.dap_tree.specs.declared.side.Side.TheVariants.{Client, Adapter}
use Rattle.dap_profile.specs.RowRanges.{same_kind}
use Rattle.dap_profile.specs.declared.profile.Kind.{Kind}
use Rattle.dap_profile.specs.declared.profile.Kind.TheVariants.{Request, Response, Event}
use Rattle.dap_message.specs.AskedRows.{kind_of_tree, name_of_tree}
use Rattle.dap_message.specs.Capabilities.{carries_capabilities, with_capabilities}
use Rattle.dap_message.specs.Envelope.{text_value}
use Rattle.dap_message.specs.Marks.{mark}
use Rattle.dap_message.specs.Message.{message_of}
use Rattle.dap_message.specs.Rows.{is_text, is_true, is_of_kind}
use Rattle.dap_message.proofs.AskedRows.{kind-reported}
use Rattle.dap_flat.specs.declared.node.Node.{Node}
use Rattle.dap_flat.specs.Pieces.{Represents}
use Rattle.dap_flat_message.specs.Heads.{IsNamed, IsFault}
use Rattle.dap_flat_message.specs.Marked.{Makes}
use Rattle.dap_flat_message.specs.Places.{IsEnvelope, Locates}
use Rattle.dap_flat_message.specs.Typed.{IsTypedFlat, KeepsPlaces, may_tell}
use Rattle.dap_flat_message.specs.declared.members.Envelope.{Envelope}

text-value : (w : List ℕ) (o : Option Doc)
    → is_text w o ≡ option_map_or (bytes_eq w) (text_value o) false
text-value w None = refl
text-value w (Some null) = refl
text-value w (Some (boolean b)) = refl
text-value w (Some (whole z)) = refl
text-value w (Some (text s)) = refl
text-value w (Some (list ds)) = refl
text-value w (Some (object ms)) = refl
text-value w (Some (id s z)) = refl

both_true : (a : Bool) → (a && true) ≡ a
both_true true = refl
both_true false = refl

both_false : (a : Bool) → (a && false) ≡ false
both_false true = refl
both_false false = refl

worded : (w : List ℕ) (o : Option Doc) (b : Bool)
    → (is_text w o && b) ≡ option_map_or (bytes_eq w) (cond b (text_value o) None) false
worded w o true = both_true (is_text w o) ∙ text-value w o
worded w o false = both_false (is_text w o)

grouped : (a b c : Bool) → ((a && b) && c) ≡ (a && (b && c))
grouped true b c = refl
grouped false b c = refl

other_kind : (d : Doc) (k : Kind) → kind_of_tree d ≡ Some k → same_kind Response k ≡ false
    → carries_capabilities Adapter d ≡ false
other_kind d k reported other =
    ap (λ a. (a && is_text (codes "initialize") (get (codes "command") d))
    && is_true (get (codes "success") d))
    (kind-reported Response d ∙ ap (λ o. option_map_or (same_kind Response) o false) reported
    ∙ other)

untold : (side : Side) (d : Doc) (k : Kind) (n : Option (List ℕ)) → kind_of_tree d ≡ Some k
    → name_of_tree k d ≡ n → may_tell side k n ≡ false → carries_capabilities side d ≡ false
untold Client d k n reported name not_told = refl
untold Adapter d Request n reported name not_told = other_kind d Request reported refl
untold Adapter d Event n reported name not_told = other_kind d Event reported refl
untold Adapter d Response n reported name not_told =
    let w = codes "initialize" in
    let o = get (codes "command") d in
    let b = is_true (get (codes "success") d) in
    grouped (is_of_kind Response d) (is_text w o) b
    ∙ ap (λ c. is_of_kind Response d && c)
    (worded w o b ∙ ap (λ n. option_map_or (bytes_eq w) n false) name ∙ not_told)
    ∙ both_false (is_of_kind Response d)

located : (side : Side) (old new : List Node) (e : Envelope) (k : Kind) (n : Option (List ℕ))
    → IsNamed old k n → may_tell side k n ≡ false → IsEnvelope old e
    → Makes e old new (mark side) → (d : Doc) → Represents old d
    → Locates new e (message_of side d)
located side old new e k n named not_told places makes d shows =
    let reported = named d shows in
    let none = untold side d k n reported.0 reported.1 not_told in
    let is : mark side d ≡ message_of side d =
    ap (λ b. mark side (cond b (with_capabilities d) d)) (sym none) in
    subst (Locates new e) is (makes d record { shows = shows; places = places d shows })

pub typed_nodes : (side : Side) (old new : List Node) (e : Envelope) (k : Kind)
    (n : Option (List ℕ)) → IsNamed old k n → may_tell side k n ≡ false → IsEnvelope old e
    → IsFault old None → Makes e old new (mark side) → IsTypedFlat side old new None
typed_nodes side old new e k n named not_told places fits makes d shows =
    (sym (fits d shows), (located side old new e k n named not_told places makes d shows).shows)

pub typed_places : (side : Side) (old new : List Node) (e : Envelope) (k : Kind)
    (n : Option (List ℕ)) → IsNamed old k n → may_tell side k n ≡ false → IsEnvelope old e
    → Makes e old new (mark side) → KeepsPlaces side old e None
typed_places side old new e k n named not_told places makes d shows =
    (located side old new e k n named not_told places makes d shows).places
