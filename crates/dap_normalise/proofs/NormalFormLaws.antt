-- The text of a normal form is accepted, does not change when normalised, and determines the
-- messages up to a renaming.
use Rattle.std.proofs.Common.{◌≡◌, ℕ, zero, suc, ◌+◌, ◌≤◌, ℤ, true, List, [], ◌∷◌, ◌++◌, length}
use Rattle.std.proofs.Common.{map}
use Rattle.std.proofs.Common.{refl, sym, ◌∙◌, ap, subst, arith}
use Rattle.std.specs.List.{All, AllZip, AllByRecursion}
use Rattle.std.proofs.lemmas.List.{length-map}
use Rattle.dap_tree.specs.Ids.{ids}
use Rattle.dap_tree.specs.Json.{text_of}
use Rattle.dap_tree.specs.declared.side.Side.{Side}
use Rattle.dap_tree.specs.declared.side.Side.TheVariants.{Client, Adapter}
use Rattle.dap_tree.specs.declared.sort.Sort.{Sort}
use Rattle.dap_message.specs.Message.{Sent, IsTypedContent}
use Rattle.dap_message.specs.Numbers.{has_small_ids}
use Rattle.dap_message.proofs.Contents.{content_again}
use Rattle.dap_recording.specs.Recording.{IsRecording, record_text}
use Rattle.dap_recording.proofs.RecordsWritten.{written_is_record}
use Rattle.dap_rename.specs.Messages.{Class, IsProperId, AreProper, AreSame, IsNormal, class_after}
use Rattle.dap_rename.specs.Laws.{IsToldBySkeleton}
use Rattle.dap_rename.specs.Messages.{message_skeleton, normal_of, occurrence}
use Rattle.dap_rename.specs.Modes.{stop_in}
use Rattle.dap_rename.specs.declared.mode.Mode.{Mode}
use Rattle.dap_rename.specs.Messages.{occurrences}
use Rattle.dap_rename.specs.Renamings.{IsIn, IsRenaming, AreRelated}
use Rattle.dap_rename.proofs.RelatedLists.{gives_one, takes_one}
use Rattle.dap_rename.proofs.Lists.{head_of, tail_of}
use Rattle.dap_rename.proofs.Occurrences.{docs_alike, ids_alike}
use Rattle.dap_rename.proofs.Sameness.{normal_is_complete, normal_is_its_own, normal_is_unique}
use Rattle.dap_rename.proofs.Sameness.{related_front, same_is_proper}
use Rattle.dap_rename.proofs.NormalForms.{names_are_small, same_counts}
use Rattle.dap_rename.proofs.Stops.{mode_is_told}
use Rattle.dap_session.specs.RenamedLists.{IsNumbered, DifferInIds, IsOneToOne, seq_sort}
use Rattle.dap_session.specs.Rules.{KeepsRules}
use Rattle.dap_session.proofs.SequenceNumbers.{typed_numbered}
use Rattle.dap_session.proofs.RenamingKeepsRules.{keeps_renamed}
use Rattle.dap_input.specs.declared.limits.Limits.{Limits}
use Rattle.dap_input.specs.Limits.{AreSound}
use Rattle.dap_normalise.specs.Accepting.{Payload, AreMessages, IsAccepted, accepting, id_limit, text}
use Rattle.dap_normalise.specs.RecordTexts.{contents_of}
use Rattle.dap_normalise.specs.Checking.{AreCounted}
use Rattle.dap_normalise.specs.NormalSession.{IsNormalSession}
use Rattle.dap_normalise.specs.declared.normal_session.NormalSession.{NormalSession}
use Rattle.dap_normalise.specs.Normalising.{Normalises, IsCanonical, HasOneNormalForm}
use Rattle.dap_normalise.specs.Normalising.{NormalIsAccepted, AcceptedIsNormalised, OneNormalText}
use Rattle.dap_normalise.specs.Normalising.{NormalisingIsIdempotent, EqualTextsIffSame}
use Rattle.dap_normalise.proofs.AcceptingFacts.{accepted_facts, messages_proper, value_laws}
use Rattle.dap_normalise.proofs.NormalTexts.{normal, normal_fits, one_normal}
use Rattle.dap_input.proofs.Outcomes.{one_list}
use Rattle.dap_recording.proofs.Records.{readable}

-- ---- a renaming does not affect the session rules

-- the numbers of a kind that the entries relate, after some stops
abbrev pub Puts : List (Class × ℤ × ℤ) → Sort → ℤ → ℤ → Type 0
Puts r s x y = (stops : ℕ) × IsIn (class_after stops s, x, y) r

-- sequence numbers have one class, for any stops
seq_class : (side : Side) (stops : ℕ) → class_after stops (seq_sort side) ≡ class_after 0 (seq_sort
    side)
seq_class Client stops = refl
seq_class Adapter stops = refl

seq_entry : (r : List (Class × ℤ × ℤ)) (side : Side) (x y : ℤ) → Puts r (seq_sort side) x y
    → IsIn (class_after 0 (seq_sort side), x, y) r
seq_entry r side x y put = subst (λ c. IsIn (c, x, y) r) (seq_class side put.0) put.1

one_to_one : (r : List (Class × ℤ × ℤ)) → IsRenaming IsProperId r → IsOneToOne (Puts r)
one_to_one r is side x y u v one two =
    let c : Class = class_after 0 (seq_sort side) in
    let first = seq_entry r side x u one in
    let second = seq_entry r side y v two in (
      (λ same. gives_one IsProperId r is c x u v first
          (subst (λ z. IsIn (c, z, v) r) (sym same) second)),
      (λ same. takes_one IsProperId r is c x y u first
          (subst (λ z. IsIn (c, y, z) r) (sym same) second)),
    )

related_ids : (r : List (Class × ℤ × ℤ)) (k : ℕ) (is js : List (Sort × ℤ))
    → AreRelated r (map (occurrence k) is) (map (occurrence k) js)
    → AllZip (λ i j. Puts r i.0 i.1 j.1) is js
related_ids r k [] [] h = tt
related_ids r k [] (j ∷ js) h = absurd h
related_ids r k (i ∷ is) [] h = absurd h
related_ids r k (i ∷ is) (j ∷ js) h = ((k, h.1), related_ids r k is js h.2)

related_rest : (r : List (Class × ℤ × ℤ)) (xs more ys rest : List (Class × ℤ))
    → length xs ≡ length ys → AreRelated r (xs ++ more) (ys ++ rest) → AreRelated r more rest
related_rest r [] more [] rest n h = h
related_rest r [] more (p ∷ ys) rest n h = absurd (omega (arith, n))
related_rest r (o ∷ xs) more [] rest n h = absurd (omega (arith, n))
related_rest r (o ∷ xs) more (p ∷ ys) rest n h =
    related_rest r xs more ys rest (omega (arith, n)) h.2

renamed : (stop : Sent → ℕ) → IsToldBySkeleton stop → (r : List (Class × ℤ × ℤ)) (k : ℕ)
    (ms ns : List Sent) → map message_skeleton ms ≡ map message_skeleton ns
    → AreRelated r (occurrences stop k ms) (occurrences stop k ns)
    → DifferInIds (Puts r) ms ns
renamed stop reported r k [] [] same h = tt
renamed stop reported r k [] (n ∷ ns) same h = absurd cc
renamed stop reported r k (m ∷ ms) [] same h = absurd cc
renamed stop reported r k (m ∷ ms) (n ∷ ns) same h =
    let xs : List (Class × ℤ) = map (occurrence k) (ids m.doc) in
    let ys : List (Class × ℤ) = map (occurrence k) (ids n.doc) in
    let more : List (Class × ℤ) = occurrences stop (k + stop m) ms in
    let rest : List (Class × ℤ) = occurrences stop (k + stop n) ns in
    let alike = head_of same in
    let count : length xs ≡ length ys =
    length-map (ids m.doc) (occurrence k) ∙ ids_alike m n alike
    ∙ sym (length-map (ids n.doc) (occurrence k)) in (
      record {
        one_side = ap (λ (w : Sent). w.side) alike;
        one_skeleton = docs_alike m n alike;
        related = related_ids r k (ids m.doc) (ids n.doc) (related_front r xs more ys rest count h);
      },
      renamed stop reported r (k + stop m) ms ns (tail_of same)
          (subst (λ j. AreRelated r more (occurrences stop (k + j) ns)) (sym (reported m n alike))
          (related_rest r xs more ys rest count h)),
    )

-- The sequence numbers in the messages of records are those of their sides.
pub numbered : (records : List Payload) (ms : List Sent) → AreMessages records ms
    → All IsNumbered ms
numbered [] [] typed k d small = absurd (omega (arith, small))
numbered [] (m ∷ ms) typed k d small = absurd typed
numbered (held ∷ records) [] typed k d small = absurd typed
numbered (held ∷ records) (m ∷ ms) typed zero d small =
    subst (λ side. IsNumbered (record { side = side; doc = m.doc })) (sym typed.0.0)
    (typed_numbered held.0 typed.0.1.0 m.doc typed.0.1.2)
numbered (held ∷ records) (m ∷ ms) typed (suc k) d small =
    numbered records ms typed.1 k d (omega (arith, small))

pub rules_kept : (mode : Mode) (records : List Payload) (ms n : List Sent) → AreMessages records ms
    → AreSame (stop_in mode) ms n → KeepsRules ms → KeepsRules n
unfolding AreSame
rules_kept mode records ms n typed (r, is, carries) =
    (keeps_renamed (Puts r) (one_to_one r is) ms n (numbered records ms typed)
    (renamed (stop_in mode) (mode_is_told mode) r 0 ms n carries.0 carries.1)).0

-- ---- the records of a text

-- Messages that differ from typed messages only in their ids, which are small, are the messages of
-- their own texts.
typed_again : (records : List Payload) (ms n : List Sent) → AreMessages records ms
    → map message_skeleton ms ≡ map message_skeleton n
    → AllByRecursion (λ m. has_small_ids m.doc ≡ true) n → AreMessages (contents_of n) n
typed_again records [] [] typed same small = tt
typed_again records [] (k ∷ n) typed same small = absurd cc
typed_again records (m ∷ ms) [] typed same small = absurd cc
typed_again [] (m ∷ ms) (k ∷ n) typed same small = absurd typed
typed_again (held ∷ records) (m ∷ ms) (k ∷ n) (is, typed) same small =
    let alike = head_of same in
    let side : held.0 ≡ k.side = sym is.0 ∙ ap (λ (w : Sent). w.side) alike in
    let again = content_again held.0 held.1 m.doc k.doc is.1 (sym (docs_alike m k alike))
    small.0 in (
      (refl, subst (λ s. IsTypedContent s (text_of k.doc) k.doc) side again),
      typed_again records ms n typed (tail_of same) small.1,
    )

module _ (limits : Limits) (sound : AreSound limits) where
  pub recording_of : (n : List Sent)
      → AllByRecursion (λ m. length (text_of m.doc) ≤ limits.frame.content) n
      → IsRecording limits.frame (text n) (contents_of n)
  recording_of [] short = refl
  recording_of (m ∷ n) short = (
    record_text m.side (text_of m.doc),
    text n,
    written_is_record limits.frame m.side (text_of m.doc) sound.frame short.0,
    refl,
    recording_of n short.1,
  )

module _ (limits : Limits) (mode : Mode) (sound : AreSound limits) where
  -- ---- normalising again

  pub normal_is_accepted : (bytes : List ℕ) (ms n : List Sent) → IsAccepted limits mode bytes ms
      → IsNormal (stop_in mode) ms n → IsAccepted limits mode (text n) n
  unfolding IsNormal AreSame
  normal_is_accepted bytes ms n accepted is_n =
      let same : AreSame (stop_in mode) ms n = is_n.0 in
      let skeletons : map message_skeleton ms ≡ map message_skeleton n = same.2.0 in
      let fits = accepted.fits n is_n in
      let few = accepted.few in
      let small =
      names_are_small (stop_in mode) (id_limit limits) ms n
      (λ s. let most = sound.ids in omega (arith, most)) few is_n in
      record {
        short = fits.whole;
        records = contents_of n;
        recording = recording_of limits sound n fits.each;
        typed = typed_again accepted.records ms n accepted.typed skeletons small;
        rules = rules_kept mode accepted.records ms n accepted.typed same accepted.rules;
        few = λ c. let count = same_counts (stop_in mode) ms n same c in let most =
            few c in omega (arith, count, most);
        fits = normal_fits limits mode n n (same_is_proper (stop_in mode) ms n same).1
            (normal_is_its_own (stop_in mode) ms n is_n) fits;
      }

  accepted_proper : (bytes : List ℕ) (ms : List Sent) → IsAccepted limits mode bytes ms → AreProper
      ms
  accepted_proper bytes ms accepted = messages_proper accepted.records ms accepted.typed

  one_accepted : (bytes : List ℕ) (ms ns : List Sent) → IsAccepted limits mode bytes ms
      → IsAccepted limits mode bytes ns → ms ≡ ns
  one_accepted =
      one_list (accepting limits mode) (readable limits.frame) (value_laws limits mode)
      (accepted_facts limits mode)

  pub normalised : (bytes : List ℕ) (ms : List Sent) → IsAccepted limits mode bytes ms
      → Normalises limits mode bytes (text (normal_of (stop_in mode) ms))
  normalised bytes ms accepted =
      record {
        messages = ms;
        accepts = accepted;
        normal = normal_of (stop_in mode) ms;
        is_normal = normal mode ms (accepted_proper bytes ms accepted);
        text_is = refl;
      }

  pub one_text : (bytes written other : List ℕ) → Normalises limits mode bytes written
      → Normalises limits mode bytes other → written ≡ other
  one_text bytes written other a b =
      let one = one_accepted bytes b.messages a.messages b.accepts a.accepts in
      let is = subst (λ ms. IsNormal (stop_in mode) ms b.normal) one b.is_normal in
      a.text_is ∙ ap text
      (one_normal mode a.messages a.normal b.normal (accepted_proper bytes a.messages a.accepts)
      a.is_normal is) ∙ sym b.text_is

  pub stands_still : (bytes written : List ℕ) → Normalises limits mode bytes written
      → Normalises limits mode written written
  stands_still bytes written a = record {
    messages = a.normal;
    accepts = subst (λ t. IsAccepted limits mode t a.normal) (sym a.text_is)
        (normal_is_accepted bytes a.messages a.normal a.accepts a.is_normal);
    normal = a.normal;
    is_normal = normal_is_its_own (stop_in mode) a.messages a.normal a.is_normal;
    text_is = a.text_is;
  }

  -- ---- equal texts

  pub equal_texts : (bytes others written other : List ℕ) (a : Normalises limits mode bytes written)
      (b : Normalises limits mode others other) → written ≡ other
      → AreSame (stop_in mode) a.messages b.messages
  equal_texts bytes others written other a b same =
      let first = normal_is_accepted bytes a.messages a.normal a.accepts a.is_normal in
      let second = normal_is_accepted others b.messages b.normal b.accepts b.is_normal in
      let texts : text b.normal ≡ text a.normal = sym b.text_is ∙ sym same ∙ a.text_is in
      let one : b.normal ≡ a.normal =
      one_accepted (text a.normal) b.normal a.normal
      (subst (λ t. IsAccepted limits mode t b.normal) texts second) first in
      normal_is_complete (stop_in mode) a.messages b.messages a.normal a.is_normal
      (subst (IsNormal (stop_in mode) b.messages) one b.is_normal)

  pub same_texts : (bytes others written other : List ℕ) (a : Normalises limits mode bytes written)
      (b : Normalises limits mode others other) → AreSame (stop_in mode) a.messages b.messages
      → written ≡ other
  same_texts bytes others written other a b same =
      a.text_is ∙ ap text
      (normal_is_unique (stop_in mode) a.messages b.messages a.normal b.normal same a.is_normal
      b.is_normal) ∙ sym b.text_is

-- ---- the laws

pub has_one_normal_form : HasOneNormalForm
has_one_normal_form limits mode sound bytes messages accepted =
    let proper = accepted_proper limits mode sound bytes messages accepted in
    let is = normal mode messages proper in (
      normal_of (stop_in mode) messages,
      is,
      λ other is_other. one_normal mode messages other (normal_of (stop_in mode) messages) proper
          is_other
          is,
    )

pub normal_accepted : NormalIsAccepted
unfolding IsNormal
normal_accepted limits mode sound bytes messages n accepted is_n =
    (normal_is_accepted limits mode sound bytes messages n accepted is_n, is_n.0)

pub accepted_is_normalised : AcceptedIsNormalised
accepted_is_normalised limits mode sound bytes = (
  (λ accepted. (
    text (normal_of (stop_in mode) accepted.0),
    normalised limits mode sound bytes accepted.0
        accepted.1,
  )),
  (λ written. (written.1.messages, written.1.accepts)),
)

pub one_normal_text : OneNormalText
one_normal_text limits mode sound bytes written other a b = one_text limits mode sound bytes written
    other a b

pub normal_stands_still : NormalisingIsIdempotent
normal_stands_still limits mode sound bytes written a = stands_still limits mode sound bytes written
    a

pub equal_texts_tell : EqualTextsIffSame
equal_texts_tell limits mode sound bytes others written other a b = (
  equal_texts limits mode sound bytes others written other a b,
  same_texts limits mode sound bytes others written other a b,
)

-- ---- all guarantees about an output

pub canonical : (limits : Limits) (mode : Mode) → AreSound limits → (bytes written : List ℕ)
    → Normalises limits mode bytes written → IsCanonical limits mode bytes written
canonical limits mode sound bytes written a =
    let form = normal_accepted limits mode sound bytes a.messages a.normal a.accepts a.is_normal in
    let again = stands_still limits mode sound bytes written a in
    record {
      normalises = a;
      accepted = subst (λ t. IsAccepted limits mode t a.normal) (sym a.text_is) form.0;
      renamed = form.1;
      again = again;
      only = λ other is. one_text limits mode sound written other written is again;
      tells = λ others other b. equal_texts_tell limits mode sound bytes others written other a b;
    }

-- A normal text with the counts of the messages.
pub normal_session : (limits : Limits) (mode : Mode) → AreSound limits → (bytes : List ℕ)
    (session : NormalSession) (a : Normalises limits mode bytes session.bytes.items)
    → AreCounted session.counts a.messages → IsNormalSession limits mode bytes session
unfolding canonical
normal_session limits mode sound bytes session a counted =
    record { canonical = canonical limits mode sound bytes session.bytes.items a; counted = counted }
