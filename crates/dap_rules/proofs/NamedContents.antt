-- The canonical contents of named messages are contents of these messages. So the text of the named
-- messages of a recording is accepted, unless it or its normal form exceeds a limit.
use Rattle.std.proofs.Common.{◌≡◌, ℕ, ◌<◌, ◌^◌, suc, max, ℤ, pos, Bool, true, false, not}
use Rattle.std.proofs.Common.{◌&&◌, ◌||◌, List, [], ◌∷◌, map, Option, Some, None, refl, ap, ap₂}
use Rattle.std.proofs.Common.{sym, ◌∙◌, subst, arith, leb}
use Rattle.std.specs.Cmp.Lexicographic.{slice_cmp}
use Rattle.std.specs.Ordering.{nat_cmp, is_lt}
use Rattle.std.specs.Str.{is_utf8}
use Rattle.std.proofs.lemmas.Bool.Decides.{nat_tests}
use Rattle.dap_tree.specs.Doc.{Doc, null, boolean, whole, text, list, object, id, Items, no_items}
use Rattle.dap_tree.specs.Doc.{item, Members, no_members, member, depth, items_depth, members_depth}
use Rattle.dap_tree.specs.Doc.{all_in_range, items_in_range, members_in_range, in_range, is_sound}
use Rattle.dap_tree.specs.Doc.{has_id, items_have_id, members_have_id, is_below_all}
use Rattle.dap_tree.specs.Doc.{is_ordered, items_ordered, members_ordered, all_utf8, items_utf8}
use Rattle.dap_tree.specs.Doc.{members_utf8}
use Rattle.dap_tree.specs.Ids.{ids_in_range, items_ids_in_range, members_ids_in_range}
use Rattle.dap_tree.specs.Json.{IsRead, text_of}
use Rattle.dap_tree.specs.declared.side.Side.{Side}
use Rattle.dap_tree.proofs.Booleans.{and_both, and_left, and_right, or_left, or_right}
use Rattle.dap_tree.proofs.MemberOrder.{read_is_ordered}
use Rattle.dap_tree.proofs.Outcomes.{read_is_plain}
use Rattle.dap_tree.proofs.Texts.{text_is_read}
use Rattle.dap_tree.proofs.Utf8.{read_is_utf8}
use Rattle.dap_tree.proofs.WithoutIds.{without_no_id}
use Rattle.dap_message.specs.Message.{Sent, IsTypedContent}
use Rattle.dap_tokens.specs.Naming.{IsNumbering, Numbering}
use Rattle.dap_mask.specs.Declarations.{Declaration, are_declared}
use Rattle.dap_tokens.specs.Values.{is_nothing}
use Rattle.dap_tokens.specs.declared.form.Form.TheVariants.{Whole}
use Rattle.dap_tokens.proofs.NamedUtf8.{named_utf8}
use Rattle.dap_naming.specs.Numbers.{number}
use Rattle.dap_naming.specs.Documents.{Declared, here, below, inside, named_doc}
use Rattle.dap_naming.specs.Documents.{named_items, named_members, named_whole}
use Rattle.dap_naming.specs.Documents.{are_sound, integer_text}
use Rattle.dap_naming.specs.Sessions.{rules_for, declared_ids, name_sent, named_sents}
use Rattle.dap_naming.proofs.Lists.{by_bool}
use Rattle.dap_naming.proofs.Numbers.{number-is_numbering}
use Rattle.dap_naming.proofs.SessionsPlaces.{sound_for}
use Rattle.dap_naming.proofs.SoundRules.{label-here, sound-below, sound-inside}
use Rattle.dap_naming.proofs.TypedNames.{names_keep_types}
use Rattle.dap_stored.proofs.Contents.{own_content}
use Rattle.dap_normalise.specs.Accepting.{Payload, AreMessages, id_limit}
use Rattle.dap_normalise.specs.RecordTexts.{contents_of}
use Rattle.dap_normalise.proofs.NormalFormLaws.{recording_of}
use Rattle.dap_rules.specs.NamedSessions.{NamedIsAccepted}
use Rattle.dap_rules.proofs.NamedRules.{names_keep_session_rules, names_keep_id_counts}

module _ (f : Numbering) where
  -- ---- depth, ids and member names stay

  mutual
    depth-named : (rs : List Declared) (d : Doc) → depth (named_doc rs f d) ≡ depth d
    depth-named rs null = refl
    depth-named rs (boolean b) = refl
    depth-named rs (whole z) = refl
    depth-named rs (text s) = refl
    depth-named rs (list ds) = ap suc (items_depth-named rs ds)
    depth-named rs (object ms) = ap suc (members_depth-named rs ms)
    depth-named rs (id s z) = refl

    items_depth-named : (rs : List Declared) (ds : Items)
        → items_depth (named_items rs f ds) ≡ items_depth ds
    items_depth-named rs no_items = refl
    items_depth-named rs (item d ds) =
        ap₂ max (depth-named (inside d rs) d) (items_depth-named rs ds)

    members_depth-named : (rs : List Declared) (ms : Members)
        → members_depth (named_members rs f ms) ≡ members_depth ms
    members_depth-named rs no_members = refl
    members_depth-named rs (member k d ms) =
        ap₂ max (depth-named (below k rs) d) (members_depth-named rs ms)

  mutual
    has_id-named : (rs : List Declared) (d : Doc) → has_id (named_doc rs f d) ≡ has_id d
    has_id-named rs null = refl
    has_id-named rs (boolean b) = refl
    has_id-named rs (whole z) = refl
    has_id-named rs (text s) = refl
    has_id-named rs (list ds) = items_have_id-named rs ds
    has_id-named rs (object ms) = members_have_id-named rs ms
    has_id-named rs (id s z) = refl

    items_have_id-named : (rs : List Declared) (ds : Items)
        → items_have_id (named_items rs f ds) ≡ items_have_id ds
    items_have_id-named rs no_items = refl
    items_have_id-named rs (item d ds) =
        ap₂ (λ a b. a || b) (has_id-named (inside d rs) d) (items_have_id-named rs ds)

    members_have_id-named : (rs : List Declared) (ms : Members)
        → members_have_id (named_members rs f ms) ≡ members_have_id ms
    members_have_id-named rs no_members = refl
    members_have_id-named rs (member k d ms) =
        ap₂ (λ a b. a || b) (has_id-named (below k rs) d) (members_have_id-named rs ms)

  below-named : (k : List ℕ) (rs : List Declared) (ms : Members)
      → is_below_all k (named_members rs f ms) ≡ is_below_all k ms
  below-named k rs no_members = refl
  below-named k rs (member l d ms) =
      ap (λ b. is_lt (slice_cmp nat_cmp k l) && b) (below-named k rs ms)

  mutual
    ordered-named : (rs : List Declared) (d : Doc) → is_ordered (named_doc rs f d) ≡ is_ordered d
    ordered-named rs null = refl
    ordered-named rs (boolean b) = refl
    ordered-named rs (whole z) = refl
    ordered-named rs (text s) = refl
    ordered-named rs (list ds) = items_ordered-named rs ds
    ordered-named rs (object ms) = members_ordered-named rs ms
    ordered-named rs (id s z) = refl

    items_ordered-named : (rs : List Declared) (ds : Items)
        → items_ordered (named_items rs f ds) ≡ items_ordered ds
    items_ordered-named rs no_items = refl
    items_ordered-named rs (item d ds) =
        ap₂ (λ a b. a && b) (ordered-named (inside d rs) d) (items_ordered-named rs ds)

    members_ordered-named : (rs : List Declared) (ms : Members)
        → members_ordered (named_members rs f ms) ≡ members_ordered ms
    members_ordered-named rs no_members = refl
    members_ordered-named rs (member k d ms) =
        ap₂ (λ a b. a && b) (below-named k rs ms)
        (ap₂ (λ a b. a && b) (ordered-named (below k rs) d) (members_ordered-named rs ms))

  -- ---- UTF-8

  mutual
    utf8-named : (rs : List Declared) (d : Doc) → are_sound rs ≡ true → all_utf8 d ≡ true
        → all_utf8 (named_doc rs f d) ≡ true
    utf8-named rs null s u = refl
    utf8-named rs (boolean b) s u = refl
    utf8-named rs (whole z) s u = refl
    utf8-named rs (text t) s u = named_utf8 (here rs) f t (label-here rs s) u
    utf8-named rs (list ds) s u = items_utf8-named rs ds s u
    utf8-named rs (object ms) s u = members_utf8-named rs ms s u
    utf8-named rs (id sort z) s u = refl

    items_utf8-named : (rs : List Declared) (ds : Items) → are_sound rs ≡ true
        → items_utf8 ds ≡ true → items_utf8 (named_items rs f ds) ≡ true
    items_utf8-named rs no_items s u = refl
    items_utf8-named rs (item d ds) s u =
        and_both _ _
        (utf8-named (inside d rs) d (sound-inside d rs s) (and_left (all_utf8 d) _ u))
        (items_utf8-named rs ds s (and_right (all_utf8 d) _ u))

    members_utf8-named : (rs : List Declared) (ms : Members) → are_sound rs ≡ true
        → members_utf8 ms ≡ true → members_utf8 (named_members rs f ms) ≡ true
    members_utf8-named rs no_members s u = refl
    members_utf8-named rs (member k d ms) s u =
        let more = and_right (is_utf8 k) _ u in
        and_both _ _ (and_left (is_utf8 k) _ u)
        (and_both _ _
        (utf8-named (below k rs) d (sound-below k rs s) (and_left (all_utf8 d) _ more))
        (members_utf8-named rs ms s (and_right (all_utf8 d) _ more)))

  -- ---- the range of integers

  module _ (n : IsNumbering f) where
    small : (k : ℕ) → k < 2 ^ 64 → in_range (pos k) ≡ true
    small k h = grind (arith, nat_tests)

    whole-range : (o : Option (List ℕ)) (z : ℤ) → in_range z ≡ true
        → in_range (named_whole o f z) ≡ true
    whole-range None z h = h
    whole-range (Some label) z h =
        by_bool (is_nothing (integer_text z))
        (λ e. rw e h)
        (λ e. rw e (small (f label (integer_text z)) (n label (integer_text z)).1))

    mutual
      range-named : (rs : List Declared) (d : Doc) → all_in_range d ≡ true
          → all_in_range (named_doc rs f d) ≡ true
      range-named rs null h = refl
      range-named rs (boolean b) h = refl
      range-named rs (whole z) h = whole-range (here rs Whole) z h
      range-named rs (text s) h = refl
      range-named rs (list ds) h = items_range-named rs ds h
      range-named rs (object ms) h = members_range-named rs ms h
      range-named rs (id s z) h = refl

      items_range-named : (rs : List Declared) (ds : Items) → items_in_range ds ≡ true
          → items_in_range (named_items rs f ds) ≡ true
      items_range-named rs no_items h = refl
      items_range-named rs (item d ds) h =
          and_both _ _ (range-named (inside d rs) d (and_left (all_in_range d) _ h))
          (items_range-named rs ds (and_right (all_in_range d) _ h))

      members_range-named : (rs : List Declared) (ms : Members) → members_in_range ms ≡ true
          → members_in_range (named_members rs f ms) ≡ true
      members_range-named rs no_members h = refl
      members_range-named rs (member k d ms) h =
          and_both _ _ (range-named (below k rs) d (and_left (all_in_range d) _ h))
          (members_range-named rs ms (and_right (all_in_range d) _ h))

    sound-named : (rs : List Declared) (d : Doc) → is_sound d ≡ true
        → is_sound (named_doc rs f d) ≡ true
    sound-named rs d h =
        and_both _ _ (ap (λ k. leb k 127) (depth-named rs d) ∙ and_left (leb (depth d) 127) _ h)
        (range-named rs d (and_right (leb (depth d) 127) _ h))

-- ---- documents without ids

mutual
  no_id_in_range : (d : Doc) → has_id d ≡ false → ids_in_range d ≡ true
  no_id_in_range null h = refl
  no_id_in_range (boolean b) h = refl
  no_id_in_range (whole z) h = refl
  no_id_in_range (text s) h = refl
  no_id_in_range (list ds) h = items_no_id_in_range ds h
  no_id_in_range (object ms) h = members_no_id_in_range ms h
  no_id_in_range (id s z) h = cc

  items_no_id_in_range : (ds : Items) → items_have_id ds ≡ false → items_ids_in_range ds ≡ true
  items_no_id_in_range no_items h = refl
  items_no_id_in_range (item d ds) h =
      and_both _ _ (no_id_in_range d (or_left _ _ h))
      (items_no_id_in_range ds (or_right (has_id d) _ h))

  members_no_id_in_range : (ms : Members) → members_have_id ms ≡ false
      → members_ids_in_range ms ≡ true
  members_no_id_in_range no_members h = refl
  members_no_id_in_range (member k d ms) h =
      and_both _ _ (no_id_in_range d (or_left _ _ h))
      (members_no_id_in_range ms (or_right (has_id d) _ h))

off : (b : Bool) → not b ≡ true → b ≡ false
off true h = cc
off false h = refl

-- ---- contents

-- The text of a named document is read as the named document.
named_is_read : (rs : List Declared) (f : Numbering) (bytes : List ℕ) (d : Doc)
    → are_sound rs ≡ true → IsNumbering f → IsRead bytes d
    → IsRead (text_of (named_doc rs f d)) (named_doc rs f d)
named_is_read rs f bytes d s n reads =
    let e = named_doc rs f d in
    let plain = read_is_plain bytes d reads in
    let none : has_id e ≡ false =
    has_id-named f rs d ∙ off (has_id d) (and_right (is_sound d) _ plain) in
    subst (IsRead (text_of e)) (without_no_id e none)
    (text_is_read e (sound-named f n rs d (and_left (is_sound d) _ plain))
    (no_id_in_range e none) (ordered-named f rs d ∙ read_is_ordered bytes d reads)
    (utf8-named f rs d s (read_is_utf8 bytes d reads)))

-- The canonical content of a named message is that of the named message.
pub named_content : (xs : List Declaration) (f : Numbering) (side : Side) (bytes : List ℕ) (m : Doc)
    → are_declared xs ≡ true → IsNumbering f → IsTypedContent side bytes m
    → let k = named_doc (rules_for xs m) f m in IsTypedContent side (text_of k) k
named_content xs f side bytes m h n (d, reads, typed) =
    let e = named_doc (rules_for xs d) f d in
    let k = named_doc (rules_for xs m) f m in
    own_content side (text_of e) k (
      e,
      named_is_read (rules_for xs d) f bytes d (sound_for xs d h) n reads,
      names_keep_types xs f side d m h typed,
    )

pub named_typed : (xs : List Declaration) (f : Numbering) (records : List Payload) (ms : List Sent)
    → are_declared xs ≡ true → IsNumbering f → AreMessages records ms
    → AreMessages (contents_of (map (name_sent xs f) ms)) (map (name_sent xs f) ms)
named_typed xs f [] [] h n typed = tt
named_typed xs f [] (m ∷ ms) h n typed = absurd typed
named_typed xs f (held ∷ records) [] h n typed = absurd typed
named_typed xs f (held ∷ records) (m ∷ ms) h n (is, typed) = (
  (
    refl,
    named_content xs f m.side held.1 m.doc h n
        (subst (λ s. IsTypedContent s held.1 m.doc) (sym is.0) is.1),
  ),
  named_typed xs f records ms h n typed,
)

pub named_is_accepted : NamedIsAccepted
named_is_accepted limits mode sound xs bytes ms h c accepted fits normal =
    let is = declared_ids xs ms in
    let n = number-is_numbering is c in
    let ns = named_sents xs ms in
    record {
      short = fits.whole;
      records = contents_of ns;
      recording = recording_of limits sound ns fits.each;
      typed = named_typed xs (number is) accepted.records ms h n accepted.typed;
      rules = (names_keep_session_rules xs ms h).0 accepted.rules;
      few = (names_keep_id_counts mode (id_limit limits) xs ms h).0 accepted.few;
      fits = normal;
    }
