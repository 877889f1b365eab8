-- Words leave the structure, ids and the order of members, and a second pass changes nothing.
use Rattle.std.proofs.Common.{◌≡◌, ℕ, Bool, true, false, cond, suc, max, ◌&&◌, ◌||◌, List, []}
use Rattle.std.proofs.Common.{IsUtf8, nat_le, refl, ap, ap₂, nat_cmp}
use Rattle.std.proofs.lemmas.Str.{IsUtf8-from_is_utf8, is_utf8-from_IsUtf8}
use Rattle.std.specs.Cmp.Lexicographic.{slice_cmp}
use Rattle.std.specs.Ordering.{is_lt}
use Rattle.std.specs.Str.{is_utf8}
use Rattle.dap_tree.specs.Doc.{Doc, null, boolean, whole, text, list, object, id, Items, no_items}
use Rattle.dap_tree.specs.Doc.{item, Members, no_members, member, depth, items_depth, members_depth}
use Rattle.dap_tree.specs.Doc.{all_in_range, items_in_range, members_in_range, is_sound, all_utf8}
use Rattle.dap_tree.specs.Doc.{items_utf8, members_utf8, has_id, items_have_id, members_have_id}
use Rattle.dap_tree.specs.Doc.{is_below_all, is_ordered, items_ordered, members_ordered}
use Rattle.dap_tree.proofs.Booleans.{and_left, and_right, and_both}
use Rattle.dap_words.specs.Words.{Pair, replaced, AreUtf8}
use Rattle.dap_words.specs.Apart.{are_apart}
use Rattle.dap_words.proofs.ReplacedTexts.{replaced_is}
use Rattle.dap_words.proofs.WordsUtf8.{replaced_utf8}
use Rattle.dap_words.specs.Worded.{worded, items_worded, members_worded, names_its_kind}
use Rattle.dap_words.proofs.Texts.{replaced_none, text_twice}

-- a member that is kept or worded: what holds for both
pub either : {A : Type 0} → (f : Doc → A) (b : Bool) (d e : Doc) → f e ≡ f d
    → f (cond b d e) ≡ f d
either f true d e h = refl
either f false d e h = h

-- ---- without words

mutual
  pub worded_none : (m : Bool) (d : Doc) → worded [] m d ≡ d
  worded_none m null = refl
  worded_none m (boolean b) = refl
  worded_none m (whole z) = refl
  worded_none m (text s) = ap text (replaced_none s)
  worded_none m (list ds) = ap list (items_none ds)
  worded_none m (object ms) = ap object (members_none m ms)
  worded_none m (id s z) = refl

  items_none : (ds : Items) → items_worded [] ds ≡ ds
  items_none no_items = refl
  items_none (item d ds) = ap₂ item (worded_none false d) (items_none ds)

  members_none : (m : Bool) (ms : Members) → members_worded [] m ms ≡ ms
  members_none m no_members = refl
  members_none m (member k d ms) =
      ap₂ (member k) (either (λ e. e) (m && names_its_kind k) d (worded [] false d)
      (worded_none false d)) (members_none m ms)

module _ (pairs : List Pair) where
  -- ---- depth and range

  mutual
    depth_worded : (m : Bool) (d : Doc) → depth (worded pairs m d) ≡ depth d
    depth_worded m null = refl
    depth_worded m (boolean b) = refl
    depth_worded m (whole z) = refl
    depth_worded m (text s) = refl
    depth_worded m (list ds) = ap suc (items_depth_worded ds)
    depth_worded m (object ms) = ap suc (members_depth_worded m ms)
    depth_worded m (id s z) = refl

    items_depth_worded : (ds : Items) → items_depth (items_worded pairs ds) ≡ items_depth ds
    items_depth_worded no_items = refl
    items_depth_worded (item d ds) = ap₂ max (depth_worded false d) (items_depth_worded ds)

    members_depth_worded : (m : Bool) (ms : Members)
        → members_depth (members_worded pairs m ms) ≡ members_depth ms
    members_depth_worded m no_members = refl
    members_depth_worded m (member k d ms) =
        ap₂ max (either depth (m && names_its_kind k) d (worded pairs false d) (depth_worded false d))
        (members_depth_worded m ms)

  mutual
    range_worded : (m : Bool) (d : Doc) → all_in_range (worded pairs m d) ≡ all_in_range d
    range_worded m null = refl
    range_worded m (boolean b) = refl
    range_worded m (whole z) = refl
    range_worded m (text s) = refl
    range_worded m (list ds) = items_range_worded ds
    range_worded m (object ms) = members_range_worded m ms
    range_worded m (id s z) = refl

    items_range_worded : (ds : Items) → items_in_range (items_worded pairs ds) ≡ items_in_range ds
    items_range_worded no_items = refl
    items_range_worded (item d ds) =
        ap₂ (λ a b. a && b) (range_worded false d) (items_range_worded ds)

    members_range_worded : (m : Bool) (ms : Members)
        → members_in_range (members_worded pairs m ms) ≡ members_in_range ms
    members_range_worded m no_members = refl
    members_range_worded m (member k d ms) =
        ap₂ (λ a b. a && b)
        (either all_in_range (m && names_its_kind k) d (worded pairs false d) (range_worded false d))
        (members_range_worded m ms)

  pub sound_worded : (m : Bool) (d : Doc) → is_sound (worded pairs m d) ≡ is_sound d
  sound_worded m d =
      ap₂ (λ n b. nat_le n 127 && b) (depth_worded m d) (range_worded m d)

  -- ---- ids

  mutual
    pub id_worded : (m : Bool) (d : Doc) → has_id (worded pairs m d) ≡ has_id d
    id_worded m null = refl
    id_worded m (boolean b) = refl
    id_worded m (whole z) = refl
    id_worded m (text s) = refl
    id_worded m (list ds) = items_id_worded ds
    id_worded m (object ms) = members_id_worded m ms
    id_worded m (id s z) = refl

    items_id_worded : (ds : Items) → items_have_id (items_worded pairs ds) ≡ items_have_id ds
    items_id_worded no_items = refl
    items_id_worded (item d ds) = ap₂ (λ a b. a || b) (id_worded false d) (items_id_worded ds)

    members_id_worded : (m : Bool) (ms : Members)
        → members_have_id (members_worded pairs m ms) ≡ members_have_id ms
    members_id_worded m no_members = refl
    members_id_worded m (member k d ms) =
        ap₂ (λ a b. a || b)
        (either has_id (m && names_its_kind k) d (worded pairs false d) (id_worded false d))
        (members_id_worded m ms)

  -- ---- the order of members

  below_worded : (k : List ℕ) (m : Bool) (ms : Members)
      → is_below_all k (members_worded pairs m ms) ≡ is_below_all k ms
  below_worded k m no_members = refl
  below_worded k m (member l d ms) =
      ap (λ b. is_lt (slice_cmp nat_cmp k l) && b) (below_worded k m ms)

  mutual
    pub ordered_worded : (m : Bool) (d : Doc) → is_ordered (worded pairs m d) ≡ is_ordered d
    ordered_worded m null = refl
    ordered_worded m (boolean b) = refl
    ordered_worded m (whole z) = refl
    ordered_worded m (text s) = refl
    ordered_worded m (list ds) = items_ordered_worded ds
    ordered_worded m (object ms) = members_ordered_worded m ms
    ordered_worded m (id s z) = refl

    items_ordered_worded : (ds : Items) → items_ordered (items_worded pairs ds) ≡ items_ordered ds
    items_ordered_worded no_items = refl
    items_ordered_worded (item d ds) =
        ap₂ (λ a b. a && b) (ordered_worded false d) (items_ordered_worded ds)

    members_ordered_worded : (m : Bool) (ms : Members)
        → members_ordered (members_worded pairs m ms) ≡ members_ordered ms
    members_ordered_worded m no_members = refl
    members_ordered_worded m (member k d ms) =
        ap₂ (λ a b. a && b) (below_worded k m ms) (ap₂ (λ a b. a && b)
        (either is_ordered (m && names_its_kind k) d (worded pairs false d) (ordered_worded false d))
        (members_ordered_worded m ms))

  -- ---- UTF-8

  module _ (u : AreUtf8 pairs) where
    text_utf8 : (s : List ℕ) → is_utf8 s ≡ true → is_utf8 (replaced pairs s) ≡ true
    text_utf8 s h =
        is_utf8-from_IsUtf8 (replaced pairs s) (replaced_utf8 pairs s (replaced pairs s) u
        (IsUtf8-from_is_utf8 s h) (replaced_is pairs s))

    kept_or : (b : Bool) (d e : Doc) → all_utf8 d ≡ true → all_utf8 e ≡ true
        → all_utf8 (cond b d e) ≡ true
    kept_or true d e h g = h
    kept_or false d e h g = g

    mutual
      pub utf8_worded : (m : Bool) (d : Doc) → all_utf8 d ≡ true
          → all_utf8 (worded pairs m d) ≡ true
      utf8_worded m null h = refl
      utf8_worded m (boolean b) h = refl
      utf8_worded m (whole z) h = refl
      utf8_worded m (text s) h = text_utf8 s h
      utf8_worded m (list ds) h = items_utf8_worded ds h
      utf8_worded m (object ms) h = members_utf8_worded m ms h
      utf8_worded m (id s z) h = refl

      items_utf8_worded : (ds : Items) → items_utf8 ds ≡ true
          → items_utf8 (items_worded pairs ds) ≡ true
      items_utf8_worded no_items h = refl
      items_utf8_worded (item d ds) h =
          and_both _ _ (utf8_worded false d (and_left (all_utf8 d) (items_utf8 ds) h))
          (items_utf8_worded ds (and_right (all_utf8 d) (items_utf8 ds) h))

      members_utf8_worded : (m : Bool) (ms : Members) → members_utf8 ms ≡ true
          → members_utf8 (members_worded pairs m ms) ≡ true
      members_utf8_worded m no_members h = refl
      members_utf8_worded m (member k d ms) h =
          let rest = and_right (is_utf8 k) (all_utf8 d && members_utf8 ms) h in
          let one = and_left (all_utf8 d) (members_utf8 ms) rest in
          and_both _ _ (and_left (is_utf8 k) (all_utf8 d && members_utf8 ms) h)
          (and_both _ _ (kept_or (m && names_its_kind k) d (worded pairs false d) one
          (utf8_worded false d one))
          (members_utf8_worded m ms (and_right (all_utf8 d) (members_utf8 ms) rest)))

  -- ---- a second pass

  module _ (apart : are_apart pairs ≡ true) where
    twice_or : (b : Bool) (d : Doc)
        → worded pairs false (worded pairs false d) ≡ worded pairs false d
        → cond b (cond b d (worded pairs false d)) (worded pairs false
        (cond b d (worded pairs false d))) ≡ cond b d (worded pairs false d)
    twice_or true d h = refl
    twice_or false d h = h

    mutual
      pub worded_twice : (m : Bool) (d : Doc)
          → worded pairs m (worded pairs m d) ≡ worded pairs m d
      worded_twice m null = refl
      worded_twice m (boolean b) = refl
      worded_twice m (whole z) = refl
      worded_twice m (text s) = ap text (text_twice pairs s apart)
      worded_twice m (list ds) = ap list (items_twice ds)
      worded_twice m (object ms) = ap object (members_twice m ms)
      worded_twice m (id s z) = refl

      items_twice : (ds : Items)
          → items_worded pairs (items_worded pairs ds) ≡ items_worded pairs ds
      items_twice no_items = refl
      items_twice (item d ds) = ap₂ item (worded_twice false d) (items_twice ds)

      members_twice : (m : Bool) (ms : Members)
          → members_worded pairs m (members_worded pairs m ms) ≡ members_worded pairs m ms
      members_twice m no_members = refl
      members_twice m (member k d ms) =
          ap₂ (member k) (twice_or (m && names_its_kind k) d (worded_twice false d))
          (members_twice m ms)
