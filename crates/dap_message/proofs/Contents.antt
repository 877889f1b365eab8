-- The laws about contents and their messages, from those about documents.
use Rattle.dap_tree.specs.Doc.{Doc, null, boolean, whole, text, list, object, id, get, is_plain}
use Rattle.dap_tree.specs.Doc.{is_sound, is_ordered, all_utf8}
use Rattle.dap_tree.specs.Json.{text_of, IsRead, Outcome, HasOutcome}
use Rattle.dap_tree.proofs.Booleans.{and_left, and_right}
use Rattle.dap_tree.specs.Ids.{ids, skeleton, without_ids}
use Rattle.dap_tree.specs.declared.side.Side.{Side}
use Rattle.dap_tree.specs.declared.sort.Sort.{Sort}
use Rattle.dap_tree.specs.declared.sort.Sort.TheVariants.{Reference}
use Rattle.dap_tree.proofs.Outcomes.{read_once, one_outcome, some_outcome, read_is_plain}
use Rattle.dap_tree.proofs.MemberOrder.{read_is_ordered}
use Rattle.dap_tree.proofs.Utf8.{read_is_utf8}
use Rattle.dap_profile.specs.Profile.{profile}
use Rattle.dap_profile.specs.declared.profile.Kind.{Kind}
use Rattle.dap_profile.specs.declared.profile.Kind.TheVariants.{Request, Response, Event}
use Rattle.dap_message.specs.Message.{IsTypedBack, IsRenumberedBack}
use Rattle.std.proofs.Common.{◌≡◌, ◌⊎◌, inl, inr, ℕ, zero, suc, ◌<◌, ℤ, pos, true, cond, List, []}
use Rattle.std.proofs.Common.{◌∷◌, length, get_or, Contains, Option, Some, None, option_map, codes}
use Rattle.std.proofs.Common.{refl, sym, ◌∙◌, ap, ap₂, arith}
use Rattle.std.specs.List.{list_all}
use Rattle.dap_tree.specs.Json as contents
use Rattle.dap_message.specs.Capabilities.{filled}
use Rattle.dap_message.specs.Envelope.{kind_of, name_of, success_of, text_value, boolean_value}
use Rattle.dap_message.specs.Envelope.{has_envelope}
use Rattle.dap_message.specs.Faults.{fault}
use Rattle.dap_message.specs.Laws.{IsWellFormed}
use Rattle.dap_message.specs.Marks.{mark}
use Rattle.dap_message.specs.Message.{IsTyped, IsTypedContent, message_of, Refusal, no_reading}
use Rattle.dap_message.specs.Message.{fraction, faulty, HasRefusal}
use Rattle.dap_message.specs.Numbers.{is_proper_number, is_proper, has_id_numbers, has_small_ids}
use Rattle.dap_message.specs.Rows.{is_of_kind, type_name, name_key}
use Rattle.dap_message.specs.declared.fault.MessageFault.{MessageFault}
use Rattle.dap_message.proofs.FilledOnce.{numbers-again, filled-again}
use Rattle.dap_message.proofs.Envelopes.{enveloped-message, some_is}
use Rattle.dap_message.proofs.KeptByTyping.{sound-message, proper-message}
use Rattle.dap_message.proofs.MemberNames.{ordered-message, utf8-message}
use Rattle.dap_message.proofs.FilledFits.{fault-filled}
use Rattle.dap_message.proofs.Shapes.{skeleton_keeps, text-shape}
use Rattle.dap_message.proofs.MarkedPlaces.{small_ids}
use Rattle.dap_message.proofs.TypedAgain.{typed_again, text_again}

-- ---- one outcome

pub one_message : (side : Side) (bytes : List ℕ) (m n : Doc) → IsTypedContent side bytes m
    → IsTypedContent side bytes n → m ≡ n
one_message side bytes m n h k =
    h.2.1 ∙ ap (message_of side) (read_once bytes h.0 k.0 h.1 k.1) ∙ sym k.2.1

-- what a rejection implies for the outcome of the content
two_outcomes : (bytes : List ℕ) (o p : Outcome) → HasOutcome bytes o → HasOutcome bytes p
    → (o ≡ p → ⊥) → ⊥
two_outcomes bytes o p h k other = other (one_outcome bytes o p h k)

pub one_refusal : (bytes : List ℕ) (e f : Refusal) → HasRefusal bytes e → HasRefusal bytes f → e ≡ f
one_refusal bytes no_reading no_reading h k = refl
one_refusal bytes no_reading fraction h k =
    absurd (two_outcomes bytes contents.no_reading contents.fraction h k (λ e. cc))
one_refusal bytes no_reading (faulty f) h k =
    absurd (two_outcomes bytes contents.no_reading (contents.document k.0) h k.1 (λ e. cc))
one_refusal bytes fraction no_reading h k =
    absurd (two_outcomes bytes contents.fraction contents.no_reading h k (λ e. cc))
one_refusal bytes fraction fraction h k = refl
one_refusal bytes fraction (faulty f) h k =
    absurd (two_outcomes bytes contents.fraction (contents.document k.0) h k.1 (λ e. cc))
one_refusal bytes (faulty e) no_reading h k =
    absurd (two_outcomes bytes (contents.document h.0) contents.no_reading h.1 k (λ x. cc))
one_refusal bytes (faulty e) fraction h k =
    absurd (two_outcomes bytes (contents.document h.0) contents.fraction h.1 k (λ x. cc))
one_refusal bytes (faulty e) (faulty f) h k =
    ap faulty (some_is e f (sym h.2 ∙ ap fault (read_once bytes h.0 k.0 h.1 k.1) ∙ k.2))

no_fault : (f : MessageFault) (o : Option MessageFault) → o ≡ None → o ≡ Some f → ⊥
no_fault f o h k = let never : None ≡ Some f = sym h ∙ k in cc

pub typed_not_refused : (side : Side) (bytes : List ℕ) (m : Doc) (e : Refusal)
    → IsTypedContent side bytes m → HasRefusal bytes e → ⊥
typed_not_refused side bytes m no_reading h k =
    two_outcomes bytes (contents.document h.0) contents.no_reading h.1 k (λ x. cc)
typed_not_refused side bytes m fraction h k =
    two_outcomes bytes (contents.document h.0) contents.fraction h.1 k (λ x. cc)
typed_not_refused side bytes m (faulty f) h k =
    no_fault f (fault k.0) (ap fault (read_once bytes k.0 h.0 k.1 h.1) ∙ h.2.0) k.2

abbrev Decided : Side → List ℕ → Type 0
Decided side bytes = ((m : Doc) × IsTypedContent side bytes m)
    ⊎ ((e : Refusal) × HasRefusal bytes e)

by_fault : (side : Side) (bytes : List ℕ) (d : Doc) → IsRead bytes d → (o : Option MessageFault)
    → fault d ≡ o → Decided side bytes
by_fault side bytes d h None is = inl (message_of side d, (d, h, (is, refl)))
by_fault side bytes d h (Some f) is = inr (faulty f, (d, h, is))

by_outcome : (side : Side) (bytes : List ℕ) (o : Outcome) → HasOutcome bytes o → Decided side bytes
by_outcome side bytes (contents.document d) h = by_fault side bytes d h (fault d) refl
by_outcome side bytes contents.no_reading h = inr (no_reading, h)
by_outcome side bytes contents.fraction h = inr (fraction, h)

pub some_message : (side : Side) (bytes : List ℕ) → Decided side bytes
some_message side bytes = let o = some_outcome bytes in by_outcome side bytes o.0 o.1

-- ---- the properties of messages

proper_found : (is : List (Sort × ℤ)) (k : ℕ) (d : Sort × ℤ) → k < length is
    → list_all (λ i. is_proper_number i.0 i.1) is ≡ true → get_or is k d ≡ (Reference, pos 0) → ⊥
proper_found [] k d h all is = absurd (omega arith)
proper_found (i ∷ is) zero d h all here =
    let proper : is_proper_number i.0 i.1 ≡ true =
    and_left (is_proper_number i.0 i.1) (list_all (λ j. is_proper_number j.0 j.1) is) all in
    let zeroed : is_proper_number Reference (pos 0) ≡ true =
    ap (λ j. is_proper_number j.0 j.1) (sym here) ∙ proper in
    cc
proper_found (i ∷ is) (suc k) d h all there =
    proper_found is k d (omega arith)
    (and_right (is_proper_number i.0 i.1) (list_all (λ j. is_proper_number j.0 j.1) is) all) there

pub typed_proper : (side : Side) (d m : Doc) → is_plain d ≡ true → IsTyped side d m
    → Contains (ids m) (Reference, pos 0) → ⊥
typed_proper side d m plain h c =
    proper_found (ids m) c.0 (Reference, pos 0) c.1 (ap is_proper h.1 ∙ proper-message side d plain)
    c.2

pub typed_sound : (side : Side) (d m : Doc) → is_plain d ≡ true → IsTyped side d m
    → is_sound m ≡ true
typed_sound side d m plain h = ap is_sound h.1 ∙ sound-message profile side d plain

pub typed_enveloped : (side : Side) (d m : Doc) → IsTyped side d m → has_envelope m ≡ true
typed_enveloped side d m h = ap has_envelope h.1 ∙ enveloped-message side d h.0

pub typed_ordered : (side : Side) (d m : Doc) → is_ordered d ≡ true → IsTyped side d m
    → is_ordered m ≡ true
typed_ordered side d m ordered h = ap is_ordered h.1 ∙ ordered-message profile side d ordered

pub typed_utf8 : (side : Side) (d m : Doc) → all_utf8 d ≡ true → IsTyped side d m
    → all_utf8 m ≡ true
typed_utf8 side d m utf8 h = ap all_utf8 h.1 ∙ utf8-message profile side d utf8

pub content_well_formed : (side : Side) (bytes : List ℕ) (m : Doc) → IsTypedContent side bytes m
    → IsWellFormed m
content_well_formed side bytes m (d, reads, h) =
    let plain = read_is_plain bytes d reads in
    record {
      proper = ap is_proper h.1 ∙ proper-message side d plain;
      sound = typed_sound side d m plain h;
      enveloped = typed_enveloped side d m h;
      ordered = typed_ordered side d m (read_is_ordered bytes d reads) h;
      utf8 = typed_utf8 side d m (read_is_utf8 bytes d reads) h;
    }

-- ---- typed again

pub document_renumbered : (side : Side) (d m n : Doc) → is_plain d ≡ true → IsTyped side d m
    → skeleton n ≡ skeleton m → has_id_numbers n ≡ true → IsTyped side (without_ids n) n
document_renumbered side d m n plain h same fit =
    (typed_again side d n plain h.0 (same ∙ ap skeleton h.1) fit).1

pub content_renumbered : (side : Side) (bytes : List ℕ) (m n : Doc) → IsTypedContent side bytes m
    → skeleton n ≡ skeleton m → has_id_numbers n ≡ true → IsTypedContent side (text_of n) n
content_renumbered side bytes m n (d, reads, h) same fit =
    let plain = read_is_plain bytes d reads in (
      without_ids n,
      text_again profile side d n plain (read_is_ordered bytes d reads)
          (read_is_utf8 bytes d reads) (same ∙ ap skeleton h.1) fit,
      document_renumbered side d m n plain h same fit,
    )

pub document_again : (side : Side) (d m n : Doc) → is_plain d ≡ true → IsTyped side d m
    → skeleton n ≡ skeleton m → has_small_ids n ≡ true → IsTyped side (without_ids n) n
document_again side d m n plain h same small =
    document_renumbered side d m n plain h same (small_ids (ids n) small)

pub content_again : (side : Side) (bytes : List ℕ) (m n : Doc) → IsTypedContent side bytes m
    → skeleton n ≡ skeleton m → has_small_ids n ≡ true → IsTypedContent side (text_of n) n
content_again side bytes m n h same small =
    content_renumbered side bytes m n h same (small_ids (ids n) small)

pub own_again : (side : Side) (d m : Doc) → is_plain d ≡ true → IsTyped side d m
    → IsTyped side (without_ids m) m
own_again side d m plain h =
    let numbers : without_ids m ≡ filled side d =
    ap without_ids h.1 ∙ numbers-again profile side d plain in (
      ap fault numbers ∙ fault-filled side d h.0,
      h.1 ∙ ap (mark side) (sym (filled-again side d))
          ∙ ap (message_of side) (sym numbers),
    )

-- ---- what the skeleton determines

text_value-skeleton : (o : Option Doc) → text_value (option_map skeleton o) ≡ text_value o
text_value-skeleton None = refl
text_value-skeleton (Some null) = refl
text_value-skeleton (Some (boolean b)) = refl
text_value-skeleton (Some (whole z)) = refl
text_value-skeleton (Some (text s)) = refl
text_value-skeleton (Some (list ds)) = refl
text_value-skeleton (Some (object ms)) = refl
text_value-skeleton (Some (id s z)) = refl

boolean_value-skeleton : (o : Option Doc) → boolean_value (option_map skeleton o) ≡ boolean_value o
boolean_value-skeleton None = refl
boolean_value-skeleton (Some null) = refl
boolean_value-skeleton (Some (boolean b)) = refl
boolean_value-skeleton (Some (whole z)) = refl
boolean_value-skeleton (Some (text s)) = refl
boolean_value-skeleton (Some (list ds)) = refl
boolean_value-skeleton (Some (object ms)) = refl
boolean_value-skeleton (Some (id s z)) = refl

pub of_kind-skeleton : (k : Kind) (d : Doc) → is_of_kind k (skeleton d) ≡ is_of_kind k d
of_kind-skeleton k d = text-shape skeleton skeleton_keeps (type_name k) (codes "type") d

kind_of-skeleton : (d : Doc) → kind_of (skeleton d) ≡ kind_of d
kind_of-skeleton d =
    ap₂ (λ a b. cond a Request (cond b Response Event)) (of_kind-skeleton Request d)
    (of_kind-skeleton Response d)

name_of-skeleton : (d : Doc) → name_of (skeleton d) ≡ name_of d
name_of-skeleton d =
    ap (λ k. text_value (get (name_key k) (skeleton d))) (kind_of-skeleton d)
    ∙ ap text_value (skeleton_keeps.member (name_key (kind_of d)) d)
    ∙ text_value-skeleton (get (name_key (kind_of d)) d)

success_of-skeleton : (d : Doc) → success_of (skeleton d) ≡ success_of d
success_of-skeleton d =
    ap₂ (λ b o. cond b o None) (of_kind-skeleton Response d)
    (ap boolean_value (skeleton_keeps.member (codes "success") d)
    ∙ boolean_value-skeleton (get (codes "success") d))

pub skeleton_tells : (m n : Doc) → skeleton n ≡ skeleton m
    → (kind_of n ≡ kind_of m) × (name_of n ≡ name_of m) × (success_of n ≡ success_of m)
skeleton_tells m n h = (
  sym (kind_of-skeleton n) ∙ ap kind_of h ∙ kind_of-skeleton m,
  sym (name_of-skeleton n) ∙ ap name_of h ∙ name_of-skeleton m,
  sym (success_of-skeleton n) ∙ ap success_of h ∙ success_of-skeleton m,
)

-- ---- the content of a message

pub typed_back : (side : Side) (m : Doc) (bytes : List ℕ) → IsRead bytes (without_ids m)
    → IsTypedBack side m bytes
typed_back side m bytes reads d plain h =
    let numbers : without_ids m ≡ filled side d =
    ap without_ids h.1 ∙ numbers-again profile side d plain in
    (without_ids m, reads, own_again side d m plain h)

pub renumbered_back : (side : Side) (n : Doc) (bytes : List ℕ) → IsRead bytes (without_ids n)
    → IsRenumberedBack side n bytes
renumbered_back side n bytes reads d m plain h same fit =
    let again = typed_again side d n plain h.0 (same ∙ ap skeleton h.1) fit in
    (without_ids n, reads, again.1)
