-- A content read loosely: the document is unique, in order, in UTF-8 and without ids. The text of
-- the redacted document is read as the same document.
use Rattle.std.proofs.Common.{◌≡◌, ◌⊎◌, inl, inr, ℕ, true, false, not, ◌&&◌, List, [], Some}
use Rattle.std.proofs.Common.{refl, sym}
use Rattle.std.proofs.Common.{ap, ap₂, ◌∙◌, subst, nat_cmp}
use Rattle.std.specs.Cmp.Lexicographic.{slice_cmp}
use Rattle.std.specs.Ordering.{is_lt}
use Rattle.std.specs.Str.{is_utf8}
use Rattle.serde_json.specs.Data as json
use Rattle.serde_json.specs.Read.{read}
use Rattle.dap_tree.specs.Doc.{Doc, null, boolean, whole, text, list, object, id, Items, no_items}
use Rattle.dap_tree.specs.Doc.{item, Members, no_members, member, has_id, items_have_id, is_sound}
use Rattle.dap_tree.specs.Doc.{members_have_id, is_below_all, is_ordered, items_ordered}
use Rattle.dap_tree.specs.Doc.{members_ordered, all_utf8, items_utf8, members_utf8}
use Rattle.dap_tree.specs.Ids.{ids_in_range, items_ids_in_range, members_ids_in_range}
use Rattle.dap_tree.specs.Json.{IsRead, HasNoReading, Outcome, document, no_reading, fraction}
use Rattle.dap_tree.specs.Json.{HasOutcome, text_of}
use Rattle.dap_tree.proofs.Booleans.{and_both, and_left, or_left, or_right}
use Rattle.dap_tree.proofs.MemberOrder.{data_below_all, data_ordered, items_data_ordered}
use Rattle.dap_tree.proofs.MemberOrder.{members_data_ordered, ordered_read}
use Rattle.dap_tree.proofs.Outcomes.{read_is_plain, some_outcome}
use Rattle.dap_tree.proofs.Texts.{text_is_read}
use Rattle.dap_tree.proofs.Utf8.{data_utf8, items_data_utf8, members_data_utf8, read-utf8}
use Rattle.dap_tree.proofs.WithoutIds.{without_no_id}
use Rattle.dap_words.specs.Words.{AreUtf8}
use Rattle.dap_words.specs.Worded.{worded_message}
use Rattle.dap_words.proofs.WordedDocs.{ordered_worded, utf8_worded, id_worded, worded_none}
use Rattle.dap_mask.specs.Fills.{filled, keep_fills, AreFillsUtf8}
use Rattle.dap_mask.specs.Loose.{loose, loose_items, loose_members, IsReadLoosely, IsReadBy}
use Rattle.dap_mask.specs.Loose.{IsLeftOf}
use Rattle.dap_mask.specs.Mask.{Mask, leaves_out}
use Rattle.dap_mask.specs.Masked.{masked}
use Rattle.dap_mask.specs.Omissions.{omitted}
use Rattle.dap_mask.specs.Promises.{IsMaskedAs, IsRedactedAs, IsContentMasked}
use Rattle.dap_mask.specs.Redacted.{redacted}
use Rattle.dap_mask.specs.Rules.{Rule, are_safe, are_idempotent}
use Rattle.dap_mask.specs.Ids.{leave_ids}
use Rattle.dap_mask.proofs.ByPath.{masked_by_path, one_masked, keeps_others, none_new}
use Rattle.dap_mask.proofs.ByPath.{ordered-masked, agree_from_equal, equal_from_agree}
use Rattle.dap_mask.proofs.FilledDocs.{ordered_filled, utf8_filled, no_id_filled}
use Rattle.dap_mask.proofs.Keeping.{no_id_masked, sound_masked, utf8_masked}
use Rattle.dap_mask.proofs.LeftIds.{keeps_ids}
use Rattle.dap_mask.proofs.Loosening.{no_id_loose, read_loose}
use Rattle.dap_mask.proofs.OmittedKeeps.{ordered_omitted, utf8_omitted, no_id_omitted}
use Rattle.dap_mask.proofs.OmittedKeeps.{filled_redacted, equal_outside}
use Rattle.dap_mask.proofs.OmittedOnce.{redacted_once}
use Rattle.dap_mask.proofs.Settled.{masked_once}

-- ---- the document of a value

below_loose : (k : List ℕ) (ms : json.Members)
    → is_below_all k (loose_members ms) ≡ data_below_all k ms
below_loose k json.no_members = refl
below_loose k (json.member l v ms) =
    ap (λ b. is_lt (slice_cmp nat_cmp k l) && b) (below_loose k ms)

mutual
  ordered_loose : (v : json.Data) → is_ordered (loose v) ≡ data_ordered v
  ordered_loose json.null = refl
  ordered_loose (json.boolean b) = refl
  ordered_loose (json.number n) = refl
  ordered_loose (json.string s) = refl
  ordered_loose (json.array vs) = items_ordered_loose vs
  ordered_loose (json.object ms) = members_ordered_loose ms

  items_ordered_loose : (vs : json.Items) → items_ordered (loose_items vs) ≡ items_data_ordered vs
  items_ordered_loose json.no_items = refl
  items_ordered_loose (json.item v vs) =
      ap₂ (λ a b. a && b) (ordered_loose v) (items_ordered_loose vs)

  members_ordered_loose : (ms : json.Members)
      → members_ordered (loose_members ms) ≡ members_data_ordered ms
  members_ordered_loose json.no_members = refl
  members_ordered_loose (json.member k v ms) =
      ap₂ (λ a b. a && b) (below_loose k ms)
      (ap₂ (λ a b. a && b) (ordered_loose v) (members_ordered_loose ms))

mutual
  utf8_loose : (v : json.Data) → all_utf8 (loose v) ≡ data_utf8 v
  utf8_loose json.null = refl
  utf8_loose (json.boolean b) = refl
  utf8_loose (json.number n) = refl
  utf8_loose (json.string s) = refl
  utf8_loose (json.array vs) = items_utf8_loose vs
  utf8_loose (json.object ms) = members_utf8_loose ms

  items_utf8_loose : (vs : json.Items) → items_utf8 (loose_items vs) ≡ items_data_utf8 vs
  items_utf8_loose json.no_items = refl
  items_utf8_loose (json.item v vs) = ap₂ (λ a b. a && b) (utf8_loose v) (items_utf8_loose vs)

  members_utf8_loose : (ms : json.Members)
      → members_utf8 (loose_members ms) ≡ members_data_utf8 ms
  members_utf8_loose json.no_members = refl
  members_utf8_loose (json.member k v ms) =
      ap (λ b. is_utf8 k && b)
      (ap₂ (λ a b. a && b) (utf8_loose v) (members_utf8_loose ms))

-- ---- the document of a content

pub one_loose_reading : (bytes : List ℕ) (d e : Doc) → IsReadLoosely bytes d
    → IsReadLoosely bytes e → d ≡ e
one_loose_reading bytes d e (v, reads, is) (w, also, is_other) =
    let same : Some v ≡ Some w = sym reads.1 ∙ also.1 in
    is ∙ ap loose (some_same v w same) ∙ sym is_other
  where
    some_same : (v w : json.Data) → Some v ≡ Some w → v ≡ w
    some_same v w h = cc

pub loosely_ordered : (bytes : List ℕ) (d : Doc) → IsReadLoosely bytes d → is_ordered d ≡ true
loosely_ordered bytes d (v, reads, is) =
    ap is_ordered is ∙ ordered_loose v ∙ ordered_read bytes v reads.1

-- Each content is read loosely, or is not JSON text.
pub some_loose_reading : (bytes : List ℕ) → ((d : Doc) × IsReadLoosely bytes d)
    ⊎ HasNoReading bytes
some_loose_reading bytes = by_outcome (some_outcome bytes).0 (some_outcome bytes).1
  where
    by_outcome : (o : Outcome) → HasOutcome bytes o
        → ((d : Doc) × IsReadLoosely bytes d) ⊎ HasNoReading bytes
    by_outcome (document d) is = inl (d, read_loose bytes d is)
    by_outcome no_reading none = inr none
    by_outcome fraction (v, reads, float) = inl (loose v, (v, reads, refl))

loosely_utf8 : (bytes : List ℕ) (d : Doc) → IsReadLoosely bytes d → all_utf8 d ≡ true
loosely_utf8 bytes d (v, reads, is) =
    ap all_utf8 is ∙ utf8_loose v ∙ read-utf8 bytes v reads.0 reads.1

loosely_no_id : (bytes : List ℕ) (d : Doc) → IsReadLoosely bytes d → has_id d ≡ false
loosely_no_id bytes d (v, reads, is) = ap has_id is ∙ no_id_loose v

-- ---- a content read with words and members that are set

pub one_reading : (mask : Mask) (bytes : List ℕ) (d e : Doc) → IsReadBy mask bytes d
    → IsReadBy mask bytes e → d ≡ e
one_reading mask bytes d e (raw, read, is) (other, also, is_other) =
    is ∙ ap (λ x. filled mask.fills (worded_message mask.words x))
    (one_loose_reading bytes raw other read also) ∙ sym is_other

pub ordered_by : (mask : Mask) (bytes : List ℕ) (d : Doc) → IsReadBy mask bytes d
    → is_ordered d ≡ true
ordered_by mask bytes d (raw, read, is) =
    ap is_ordered is
    ∙ ordered_filled mask.fills (worded_message mask.words raw)
    (ordered_worded mask.words true raw ∙ loosely_ordered bytes raw read)

utf8_by : (mask : Mask) (bytes : List ℕ) (d : Doc) → AreUtf8 mask.words
    → AreFillsUtf8 mask.fills → IsReadBy mask bytes d → all_utf8 d ≡ true
utf8_by mask bytes d u v (raw, read, is) =
    ap all_utf8 is
    ∙ utf8_filled mask.fills (worded_message mask.words raw) v
    (utf8_worded mask.words u true raw (loosely_utf8 bytes raw read))

no_id_by : (mask : Mask) (bytes : List ℕ) (d : Doc) → IsReadBy mask bytes d → has_id d ≡ false
no_id_by mask bytes d (raw, read, is) =
    ap has_id is
    ∙ no_id_filled mask.fills (worded_message mask.words raw)
    (id_worded mask.words true raw ∙ loosely_no_id bytes raw read)

-- setting members again in the redacted document does not change it
pub filled_again : (mask : Mask) (bytes : List ℕ) (d : Doc) → are_safe mask.changes ≡ true
    → keep_fills mask.changes mask.fills ≡ true → IsReadBy mask bytes d
    → filled mask.fills (redacted mask d) ≡ redacted mask d
filled_again mask bytes d safe full (raw, read, is) =
    ap (λ x. filled mask.fills (redacted mask x)) is
    ∙ filled_redacted mask (worded_message mask.words raw) safe full
    ∙ ap (redacted mask) (sym is)

-- ---- the result of masking a content

mutual
  ranged_no_id : (d : Doc) → has_id d ≡ false → ids_in_range d ≡ true
  ranged_no_id null h = refl
  ranged_no_id (boolean b) h = refl
  ranged_no_id (whole z) h = refl
  ranged_no_id (text s) h = refl
  ranged_no_id (list ds) h = items_ranged_no_id ds h
  ranged_no_id (object ms) h = members_ranged_no_id ms h
  ranged_no_id (id s z) h = cc

  items_ranged_no_id : (ds : Items) → items_have_id ds ≡ false → items_ids_in_range ds ≡ true
  items_ranged_no_id no_items h = refl
  items_ranged_no_id (item d ds) h =
      and_both _ _ (ranged_no_id d (or_left _ _ h))
      (items_ranged_no_id ds (or_right (has_id d) _ h))

  members_ranged_no_id : (ms : Members) → members_have_id ms ≡ false
      → members_ids_in_range ms ≡ true
  members_ranged_no_id no_members h = refl
  members_ranged_no_id (member k d ms) h =
      and_both _ _ (ranged_no_id d (or_left _ _ h))
      (members_ranged_no_id ms (or_right (has_id d) _ h))

pub left_is_read : (mask : Mask) (bytes : List ℕ) (e : Doc) → AreUtf8 mask.words
    → AreFillsUtf8 mask.fills → IsLeftOf mask bytes (Some e) → IsRead (text_of e) e
left_is_read mask bytes e u v (d, read, (kept, is, sound)) =
    let rules = mask.changes in
    let os = mask.omissions in
    let m = masked rules d in
    let ordered : is_ordered e ≡ true =
    ap is_ordered is
    ∙ ordered_omitted os m (ordered-masked rules d (ordered_by mask bytes d read)) in
    let utf8 : all_utf8 e ≡ true =
    ap all_utf8 is ∙ utf8_omitted os m (utf8_masked rules d (utf8_by mask bytes d u v read)) in
    let no_id : has_id e ≡ false =
    ap has_id is ∙ no_id_omitted os m (no_id_masked rules d (no_id_by mask bytes d read)) in
    subst (IsRead (text_of e)) (without_no_id e no_id)
    (text_is_read e sound (ranged_no_id e no_id) ordered utf8)

-- ---- all guarantees

pub content_masked : (rules : List Rule) (mask : Mask) (bytes : List ℕ) (d : Doc)
    → are_safe rules ≡ true → are_idempotent rules ≡ true → leave_ids rules ≡ true
    → IsReadBy mask bytes d → IsMaskedAs rules d (masked rules d)
content_masked rules mask bytes d safe settled leave read =
    let ordered = ordered_by mask bytes d read in
    record {
      places = masked_by_path rules d safe;
      elsewhere = λ p apart. keeps_others rules d p safe apart;
      none_new = λ p none. none_new rules d p safe none;
      ids = keeps_ids rules d safe leave;
      one = λ f is. one_masked rules d f safe ordered is;
      again = masked_once rules d safe settled ordered;
      equal = λ other others f also. (
        λ same. agree_from_equal rules d f safe same,
        λ agree. equal_from_agree rules d f safe (ordered_by other others f also) agree,
      );
    }

pub content_redacted : (mask : Mask) (bytes : List ℕ) (d : Doc) → are_safe mask.changes ≡ true
    → are_idempotent mask.changes ≡ true → leave_ids mask.changes ≡ true
    → IsReadBy mask bytes d → IsRedactedAs mask d (redacted mask d)
content_redacted mask bytes d safe settled leave read =
    let ordered = ordered_by mask bytes d read in
    record {
      between = masked mask.changes d;
      is_masked = content_masked mask.changes mask bytes d safe settled leave read;
      without = refl;
      again = redacted_once mask d safe settled ordered;
      equal = λ other others f also.
          equal_outside mask d f safe ordered (ordered_by other others f also);
    }

-- ---- a content that is read as a document, if there are no words, no members to set and no
-- elements to omit

pub read_plainly : (mask : Mask) (bytes : List ℕ) (d : Doc) → mask.words ≡ [] → mask.fills ≡ []
    → IsRead bytes d → IsReadBy mask bytes d
read_plainly mask bytes d none bare read = (
  d,
  read_loose bytes d read,
  sym (ap (λ fs. filled fs (worded_message mask.words d)) bare
      ∙ ap (λ ws. worded_message ws d) none ∙ worded_none true d),
)

redacted_plainly : (mask : Mask) (d : Doc) → mask.omissions ≡ []
    → redacted mask d ≡ masked mask.changes d
redacted_plainly mask d full = ap (λ os. omitted os (masked mask.changes d)) full

pub left_plainly : (mask : Mask) (bytes : List ℕ) (d : Doc) → mask.words ≡ [] → mask.fills ≡ []
    → mask.omissions ≡ [] → IsRead bytes d → leaves_out mask d ≡ false
    → IsLeftOf mask bytes (Some (masked mask.changes d))
left_plainly mask bytes d none bare full read kept =
    let sound = and_left (is_sound d) (not (has_id d)) (read_is_plain bytes d read) in (
      d,
      read_plainly mask bytes d none bare read,
      (kept, sym (redacted_plainly mask d full), sound_masked mask.changes d sound),
    )

pub masked_plainly : (mask : Mask) (bytes : List ℕ) (d : Doc) → are_safe mask.changes ≡ true
    → are_idempotent mask.changes ≡ true → leave_ids mask.changes ≡ true → mask.words ≡ []
    → mask.fills ≡ [] → mask.omissions ≡ [] → IsRead bytes d
    → IsContentMasked mask bytes (masked mask.changes d)
masked_plainly mask bytes d safe settled leave none bare full read e also =
    let same = one_reading mask bytes e d also (read_plainly mask bytes d none bare read) in
    subst (IsRedactedAs mask e) (ap (redacted mask) same ∙ redacted_plainly mask d full)
    (content_redacted mask bytes e safe settled leave also)
