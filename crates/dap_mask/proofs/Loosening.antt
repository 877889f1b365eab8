-- Without rules, the result is the document that the content represents.
use Rattle.std.proofs.Common.{◌≡◌, ◌∙◌, ℕ, ℤ, pos, negsuc, true, false, not, List, [], Some, nat_le}
use Rattle.std.proofs.Common.{refl, sym, ap, ap₂, subst, ◌∷◌, ◌++◌, string_bytes, string_cmp}
use Rattle.std.proofs.Common.{nat_cmp, Ordering, Less, Equal, Greater}
use Rattle.std.specs.BTreeMap.{insert_entry}
use Rattle.std.specs.Cmp.Lexicographic.{slice_cmp}
use Rattle.std.specs.List.Sorted.{IsStrictlySortedBy}
use Rattle.std.specs.Map.{keys_of}
use Rattle.std.specs.Ordering.{match_ordering}
use Rattle.serde_json.specs.View.{view as value_view, items_view as values_view}
use Rattle.serde_json.specs.View.{members_view as pairs_view}
use Rattle.serde_json.specs.declared.value.Value.{Value}
use Rattle.serde_json.proofs.Views.{Entry as Pair, put_last as pair_last}
use Rattle.std.proofs.lemmas.Bool.{and_right as and_none}
use Rattle.dap_tree.specs.View.{view, items_view, members_view}
use Rattle.dap_tree.specs.declared.tree.Tree.{Tree}
use Rattle.dap_tree.proofs.Views.{Entry, members_view-insert_entry}
use Rattle.serde_json.specs.Data as json
use Rattle.serde_json.specs.Data.{Num, unsigned, negative, float}
use Rattle.serde_json.specs.Find.{of_integer}
use Rattle.dap_tree.specs.Doc.{Doc, null, boolean, whole, text, list, object, id, Items, no_items}
use Rattle.dap_tree.specs.Doc.{item, Members, no_members, member, all_in_range, items_in_range}
use Rattle.dap_tree.specs.Doc.{members_in_range, has_id, items_have_id, members_have_id, is_sound}
use Rattle.dap_tree.specs.Doc.{depth, put}
use Rattle.dap_tree.specs.Json.{Reads, IsRead, data_of, items_data, members_data}
use Rattle.dap_tree.proofs.Booleans.{and_left, and_right, or_left, or_right, or_both}
use Rattle.dap_tree.proofs.Numbers.{all_kept, items_kept, members_kept, is_kept, kept_read}
use Rattle.dap_tree.proofs.Outcomes.{read_is_plain}
use Rattle.dap_mask.specs.Loose.{loose, loose_items, loose_members, loose_number}
use Rattle.dap_mask.specs.Loose.{IsLeftOf, IsReadLoosely}
use Rattle.dap_mask.specs.Mask.{no_rules, leaves_out}
use Rattle.dap_words.proofs.WordedDocs.{worded_none}
use Rattle.dap_message.specs.Rows.{is_of_kind}
use Rattle.dap_profile.specs.declared.profile.Kind.TheVariants.{Event}

-- ---- the JSON value of a document represents this document

loose_integer : (z : ℤ) → loose_number (of_integer z) ≡ z
loose_integer (pos n) = refl
loose_integer (negsuc n) = refl

mutual
  loose_data : (d : Doc) → has_id d ≡ false → loose (data_of d) ≡ d
  loose_data null h = refl
  loose_data (boolean b) h = refl
  loose_data (whole z) h = ap whole (loose_integer z)
  loose_data (text s) h = refl
  loose_data (list ds) h = ap list (loose_items_data ds h)
  loose_data (object ms) h = ap object (loose_members_data ms h)
  loose_data (id s z) h = cc

  loose_items_data : (ds : Items) → items_have_id ds ≡ false → loose_items (items_data ds) ≡ ds
  loose_items_data no_items h = refl
  loose_items_data (item d ds) h =
      ap₂ item (loose_data d (or_left _ _ h)) (loose_items_data ds (or_right (has_id d) _ h))

  loose_members_data : (ms : Members) → members_have_id ms ≡ false → loose_members (members_data ms)
      ≡ ms
  loose_members_data no_members h = refl
  loose_members_data (member k d ms) h =
      ap₂ (member k) (loose_data d (or_left _ _ h))
      (loose_members_data ms (or_right (has_id d) _ h))

-- ---- a value whose document is in range is the JSON value of this document

data_number : (n : Num) → is_kept n ≡ true → all_in_range (whole (loose_number n)) ≡ true
    → of_integer (loose_number n) ≡ n
data_number (unsigned n) k h = refl
data_number (negative (pos n)) k h = cc
data_number (negative (negsuc n)) k h = refl
data_number (float x) k h = cc

mutual
  data_loose : (v : json.Data) → all_kept v ≡ true → all_in_range (loose v) ≡ true
      → data_of (loose v) ≡ v
  data_loose json.null k h = refl
  data_loose (json.boolean b) k h = refl
  data_loose (json.number n) k h = ap json.number (data_number n k h)
  data_loose (json.string s) k h = refl
  data_loose (json.array vs) k h = ap json.array (items_loose vs k h)
  data_loose (json.object ms) k h = ap json.object (members_loose ms k h)

  items_loose : (vs : json.Items) → items_kept vs ≡ true → items_in_range (loose_items vs) ≡ true
      → items_data (loose_items vs) ≡ vs
  items_loose json.no_items k h = refl
  items_loose (json.item v vs) k h =
      ap₂ json.item (data_loose v (and_left _ _ k) (and_left _ _ h))
      (items_loose vs (and_right (all_kept v) _ k) (and_right (all_in_range (loose v)) _ h))

  members_loose : (ms : json.Members) → members_kept ms ≡ true → members_in_range (loose_members ms)
      ≡ true → members_data (loose_members ms) ≡ ms
  members_loose json.no_members k h = refl
  members_loose (json.member n v ms) k h =
      ap₂ (json.member n) (data_loose v (and_left _ _ k) (and_left _ _ h))
      (members_loose ms (and_right (all_kept v) _ k) (and_right (all_in_range (loose v)) _ h))

mutual
  pub no_id_loose : (v : json.Data) → has_id (loose v) ≡ false
  no_id_loose json.null = refl
  no_id_loose (json.boolean b) = refl
  no_id_loose (json.number n) = refl
  no_id_loose (json.string s) = refl
  no_id_loose (json.array vs) = items_no_id_loose vs
  no_id_loose (json.object ms) = members_no_id_loose ms

  items_no_id_loose : (vs : json.Items) → items_have_id (loose_items vs) ≡ false
  items_no_id_loose json.no_items = refl
  items_no_id_loose (json.item v vs) = or_both _ _ (no_id_loose v) (items_no_id_loose vs)

  members_no_id_loose : (ms : json.Members) → members_have_id (loose_members ms) ≡ false
  members_no_id_loose json.no_members = refl
  members_no_id_loose (json.member k v ms) = or_both _ _ (no_id_loose v) (members_no_id_loose ms)

none_dropped : (d : Doc) → leaves_out no_rules d ≡ false
none_dropped d = and_none (is_of_kind Event d) false refl

pub unmasked_is_read : (bytes : List ℕ) (d : Doc) → (IsLeftOf no_rules bytes (Some d)
    → IsRead bytes d) × (IsRead bytes d → IsLeftOf no_rules bytes (Some d))
unmasked_is_read bytes d = (to, from)
  where
    to : IsLeftOf no_rules bytes (Some d) → IsRead bytes d
    to (e, (raw, (v, reads, is_loose), is_worded), (kept, is_masked, sound)) =
        let is : d ≡ loose v = is_masked ∙ is_worded ∙ worded_none true raw ∙ is_loose in
        let same : is_sound (loose v) ≡ true = ap is_sound (sym is) ∙ sound in
        let ranged = and_right (nat_le (depth (loose v)) 127) (all_in_range (loose v)) same in
        let back : v ≡ data_of d = sym (data_loose v (kept_read bytes v reads.1) ranged)
        ∙ ap data_of (sym is) in
        (subst (Reads bytes) back reads, ap has_id is ∙ no_id_loose v)

    from : IsRead bytes d → IsLeftOf no_rules bytes (Some d)
    from r = (
      d,
      (d, (data_of d, r.0, sym (loose_data d r.1)), sym (worded_none true d)),
      (none_dropped d, refl, and_left (is_sound d) (not (has_id d)) (read_is_plain bytes d r)),
    )

-- ---- a value during parsing: one more element, and one more member

abbrev snoc : Items → Doc → Items
snoc no_items d = item d no_items
snoc (item e ds) d = item e (snoc ds d)

items_snoc : (ts : List Tree) (t : Tree)
    → items_view (ts ++ t ∷ []) ≡ snoc (items_view ts) (view t)
items_snoc [] t = refl
items_snoc (x ∷ ts) t = ap (item (view x)) (items_snoc ts t)

loose_snoc : (vs : List Value) (v : Value)
    → loose_items (values_view (vs ++ v ∷ [])) ≡ snoc (loose_items (values_view vs))
    (loose (value_view v))
loose_snoc [] v = refl
loose_snoc (x ∷ vs) v = ap (item (loose (value_view x))) (loose_snoc vs v)

pub loose_push : (vs : List Value) (ts : List Tree) (v : Value) (t : Tree)
    → items_view ts ≡ loose_items (values_view vs) → view t ≡ loose (value_view v)
    → items_view (ts ++ t ∷ []) ≡ loose_items (values_view (vs ++ v ∷ []))
loose_push vs ts v t done one = items_snoc ts t ∙ ap₂ snoc done one ∙ sym (loose_snoc vs v)

loose_at : (o : Ordering) (a b c : json.Members)
    → loose_members (match_ordering o a b c)
    ≡ match_ordering o (loose_members a) (loose_members b) (loose_members c)
loose_at Less a b c = refl
loose_at Equal a b c = refl
loose_at Greater a b c = refl

loose_put : (k : List ℕ) (v : json.Data) (ms : json.Members)
    → loose_members (json.put k v ms) ≡ put k (loose v) (loose_members ms)
loose_put k v json.no_members = refl
loose_put k v (json.member l e ms) =
    loose_at (slice_cmp nat_cmp k l) _ _ _ ∙ rw (loose_put k v ms)

pub loose_insert : (done : List Pair) (p : Pair) (left : List Pair) (es : List Entry) (t : Tree)
    → IsStrictlySortedBy string_cmp (keys_of (done ++ p ∷ left))
    → members_view es ≡ loose_members (pairs_view done) → view t ≡ loose (value_view p.1)
    → members_view (insert_entry string_cmp es p.0 t) ≡ loose_members (pairs_view (done ++ p ∷ []))
loose_insert done p left es t ordered before one =
    members_view-insert_entry es p.0 t ∙ ap₂ (put (string_bytes p.0)) one before
    ∙ sym (loose_put (string_bytes p.0) (value_view p.1) (pairs_view done))
    ∙ ap loose_members (pair_last done p left ordered)

-- ---- contents

-- a content that is read as a document is read loosely as the same document
pub read_loose : (bytes : List ℕ) (d : Doc) → IsRead bytes d → IsReadLoosely bytes d
read_loose bytes d r = (data_of d, r.0, sym (loose_data d r.1))
