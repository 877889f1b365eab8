-- The ids of a document, and the document with replaced numbers.
use Rattle.std.proofs.Common.{◌≡◌, ℕ, zero, suc, ◌+◌, ◌-◌, ◌≤◌, max, ℤ, pos, List, [], ◌∷◌, ◌++◌}
use Rattle.std.proofs.Common.{drop, get_or, length, ◌&&◌, refl, sym, ap, ap₂, ◌∙◌, leb, arith}
use Rattle.std.proofs.Common.{length-append, false}
use Rattle.std.proofs.lemmas.List.{length-map}
use Rattle.std.specs.Cmp.Lexicographic.{slice_cmp}
use Rattle.std.specs.Ordering.{nat_cmp, is_lt}
use Rattle.std.specs.Str.{is_utf8}
use Rattle.dap_tree.specs.declared.sort.Sort.{Sort}
use Rattle.dap_tree.specs.Doc.{Doc, null, boolean, whole, text, list, object, id, Items, no_items}
use Rattle.dap_tree.specs.Doc.{item, Members, no_members, member, depth, items_depth, members_depth}
use Rattle.dap_tree.specs.Doc.{all_in_range, items_in_range, members_in_range, is_sound, has_id}
use Rattle.dap_tree.specs.Doc.{items_have_id, members_have_id, is_below_all, is_ordered}
use Rattle.dap_tree.specs.Doc.{items_ordered, members_ordered, all_utf8, items_utf8, members_utf8}
use Rattle.dap_tree.specs.Ids.{ids, items_ids, members_ids, id_count, items_id_count}
use Rattle.dap_tree.specs.Ids.{members_id_count, with_ids, items_with_ids, members_with_ids}
use Rattle.dap_tree.specs.Ids.{sorts_of, numbers_of, skeleton, items_skeleton, members_skeleton}
use Rattle.dap_tree.proofs.Booleans.{or_left, or_right, or_both}

-- ---- soundness

mutual
  depth_with : (d : Doc) (ns : List ℤ) → depth (with_ids d ns) ≡ depth d
  depth_with null ns = refl
  depth_with (boolean b) ns = refl
  depth_with (whole z) ns = refl
  depth_with (text s) ns = refl
  depth_with (list ds) ns = ap suc (items_depth_with ds ns)
  depth_with (object ms) ns = ap suc (members_depth_with ms ns)
  depth_with (id s z) ns = refl

  items_depth_with : (ds : Items) (ns : List ℤ)
      → items_depth (items_with_ids ds ns) ≡ items_depth ds
  items_depth_with no_items ns = refl
  items_depth_with (item d ds) ns =
      ap₂ max (depth_with d ns) (items_depth_with ds (drop (id_count d) ns))

  members_depth_with : (ms : Members) (ns : List ℤ)
      → members_depth (members_with_ids ms ns) ≡ members_depth ms
  members_depth_with no_members ns = refl
  members_depth_with (member k d ms) ns =
      ap₂ max (depth_with d ns) (members_depth_with ms (drop (id_count d) ns))

mutual
  range_with : (d : Doc) (ns : List ℤ) → all_in_range (with_ids d ns) ≡ all_in_range d
  range_with null ns = refl
  range_with (boolean b) ns = refl
  range_with (whole z) ns = refl
  range_with (text s) ns = refl
  range_with (list ds) ns = items_range_with ds ns
  range_with (object ms) ns = members_range_with ms ns
  range_with (id s z) ns = refl

  items_range_with : (ds : Items) (ns : List ℤ)
      → items_in_range (items_with_ids ds ns) ≡ items_in_range ds
  items_range_with no_items ns = refl
  items_range_with (item d ds) ns =
      ap₂ (λ a b. a && b) (range_with d ns) (items_range_with ds (drop (id_count d) ns))

  members_range_with : (ms : Members) (ns : List ℤ)
      → members_in_range (members_with_ids ms ns) ≡ members_in_range ms
  members_range_with no_members ns = refl
  members_range_with (member k d ms) ns =
      ap₂ (λ a b. a && b) (range_with d ns) (members_range_with ms (drop (id_count d) ns))

pub sound_with : (d : Doc) (ns : List ℤ) → is_sound (with_ids d ns) ≡ is_sound d
sound_with d ns = ap₂ (λ n b. leb n 127 && b) (depth_with d ns) (range_with d ns)

-- ---- order and UTF-8

below_with : (k : List ℕ) (ms : Members) (ns : List ℤ)
    → is_below_all k (members_with_ids ms ns) ≡ is_below_all k ms
below_with k no_members ns = refl
below_with k (member l d ms) ns =
    ap (λ b. is_lt (slice_cmp nat_cmp k l) && b) (below_with k ms (drop (id_count d) ns))

mutual
  ordered_with : (d : Doc) (ns : List ℤ) → is_ordered (with_ids d ns) ≡ is_ordered d
  ordered_with null ns = refl
  ordered_with (boolean b) ns = refl
  ordered_with (whole z) ns = refl
  ordered_with (text s) ns = refl
  ordered_with (list ds) ns = items_ordered_with ds ns
  ordered_with (object ms) ns = members_ordered_with ms ns
  ordered_with (id s z) ns = refl

  items_ordered_with : (ds : Items) (ns : List ℤ)
      → items_ordered (items_with_ids ds ns) ≡ items_ordered ds
  items_ordered_with no_items ns = refl
  items_ordered_with (item d ds) ns =
      ap₂ (λ a b. a && b) (ordered_with d ns) (items_ordered_with ds (drop (id_count d) ns))

  members_ordered_with : (ms : Members) (ns : List ℤ)
      → members_ordered (members_with_ids ms ns) ≡ members_ordered ms
  members_ordered_with no_members ns = refl
  members_ordered_with (member k d ms) ns =
      let rest = drop (id_count d) ns in
      ap₂ (λ a b. a && b) (below_with k ms rest)
      (ap₂ (λ a b. a && b) (ordered_with d ns) (members_ordered_with ms rest))

mutual
  utf8_with : (d : Doc) (ns : List ℤ) → all_utf8 (with_ids d ns) ≡ all_utf8 d
  utf8_with null ns = refl
  utf8_with (boolean b) ns = refl
  utf8_with (whole z) ns = refl
  utf8_with (text s) ns = refl
  utf8_with (list ds) ns = items_utf8_with ds ns
  utf8_with (object ms) ns = members_utf8_with ms ns
  utf8_with (id s z) ns = refl

  items_utf8_with : (ds : Items) (ns : List ℤ) → items_utf8 (items_with_ids ds ns) ≡ items_utf8 ds
  items_utf8_with no_items ns = refl
  items_utf8_with (item d ds) ns =
      ap₂ (λ a b. a && b) (utf8_with d ns) (items_utf8_with ds (drop (id_count d) ns))

  members_utf8_with : (ms : Members) (ns : List ℤ)
      → members_utf8 (members_with_ids ms ns) ≡ members_utf8 ms
  members_utf8_with no_members ns = refl
  members_utf8_with (member k d ms) ns =
      ap₂ (λ a b. is_utf8 k && (a && b)) (utf8_with d ns)
      (members_utf8_with ms (drop (id_count d) ns))

-- ---- the ids

mutual
  pub count_ids : (d : Doc) → length (ids d) ≡ id_count d
  count_ids null = refl
  count_ids (boolean b) = refl
  count_ids (whole z) = refl
  count_ids (text s) = refl
  count_ids (list ds) = count_items_ids ds
  count_ids (object ms) = count_members_ids ms
  count_ids (id s z) = refl

  count_items_ids : (ds : Items) → length (items_ids ds) ≡ items_id_count ds
  count_items_ids no_items = refl
  count_items_ids (item d ds) =
      length-append (ids d) (items_ids ds) ∙ ap₂ (λ a b. a + b) (count_ids d) (count_items_ids ds)

  count_members_ids : (ms : Members) → length (members_ids ms) ≡ members_id_count ms
  count_members_ids no_members = refl
  count_members_ids (member k d ms) =
      length-append (ids d) (members_ids ms)
      ∙ ap₂ (λ a b. a + b) (count_ids d) (count_members_ids ms)

mutual
  pub ids-no_id : (d : Doc) → has_id d ≡ false → ids d ≡ []
  ids-no_id null h = refl
  ids-no_id (boolean b) h = refl
  ids-no_id (whole z) h = refl
  ids-no_id (text s) h = refl
  ids-no_id (list ds) h = items_ids-no_id ds h
  ids-no_id (object ms) h = members_ids-no_id ms h
  ids-no_id (id s z) h = cc

  items_ids-no_id : (ds : Items) → items_have_id ds ≡ false → items_ids ds ≡ []
  items_ids-no_id no_items h = refl
  items_ids-no_id (item d ds) h =
      ap₂ (λ a b. a ++ b) (ids-no_id d (or_left _ _ h))
      (items_ids-no_id ds (or_right (has_id d) _ h))

  members_ids-no_id : (ms : Members) → members_have_id ms ≡ false → members_ids ms ≡ []
  members_ids-no_id no_members h = refl
  members_ids-no_id (member k d ms) h =
      ap₂ (λ a b. a ++ b) (ids-no_id d (or_left _ _ h))
      (members_ids-no_id ms (or_right (has_id d) _ h))

empty_left : (is js : List (Sort × ℤ)) → is ++ js ≡ [] → is ≡ []
empty_left [] js h = refl
empty_left (i ∷ is) js h = absurd cc

empty_right : (is js : List (Sort × ℤ)) → is ++ js ≡ [] → js ≡ []
empty_right [] js h = h
empty_right (i ∷ is) js h = absurd cc

mutual
  pub no_id-ids : (d : Doc) → ids d ≡ [] → has_id d ≡ false
  no_id-ids null h = refl
  no_id-ids (boolean b) h = refl
  no_id-ids (whole z) h = refl
  no_id-ids (text s) h = refl
  no_id-ids (list ds) h = items_no_id-ids ds h
  no_id-ids (object ms) h = members_no_id-ids ms h
  no_id-ids (id s z) h = absurd cc

  items_no_id-ids : (ds : Items) → items_ids ds ≡ [] → items_have_id ds ≡ false
  items_no_id-ids no_items h = refl
  items_no_id-ids (item d ds) h =
      or_both _ _ (no_id-ids d (empty_left (ids d) (items_ids ds) h))
      (items_no_id-ids ds (empty_right (ids d) (items_ids ds) h))

  members_no_id-ids : (ms : Members) → members_ids ms ≡ [] → members_have_id ms ≡ false
  members_no_id-ids no_members h = refl
  members_no_id-ids (member k d ms) h =
      or_both _ _ (no_id-ids d (empty_left (ids d) (members_ids ms) h))
      (members_no_id-ids ms (empty_right (ids d) (members_ids ms) h))

-- ids with replaced numbers
abbrev pub renumbered : List (Sort × ℤ) → List ℤ → List (Sort × ℤ)
renumbered [] ns = []
renumbered (x ∷ xs) ns = (x.0, get_or ns 0 x.1) ∷ renumbered xs (drop 1 ns)

drop_first : (n : ℕ) (ns : List ℤ) → drop n (drop 1 ns) ≡ drop (suc n) ns
drop_first zero [] = refl
drop_first (suc n) [] = refl
drop_first n (x ∷ ns) = refl

renumbered-append : (xs ys : List (Sort × ℤ)) (ns : List ℤ)
    → renumbered (xs ++ ys) ns ≡ renumbered xs ns ++ renumbered ys (drop (length xs) ns)
renumbered-append [] ys ns = refl
renumbered-append (x ∷ xs) ys ns =
    ap (λ r. (x.0, get_or ns 0 x.1) ∷ r) (renumbered-append xs ys (drop 1 ns)
    ∙ ap (λ m. renumbered xs (drop 1 ns) ++ renumbered ys m) (drop_first (length xs) ns))

mutual
  pub ids_with : (d : Doc) (ns : List ℤ) → ids (with_ids d ns) ≡ renumbered (ids d) ns
  ids_with null ns = refl
  ids_with (boolean b) ns = refl
  ids_with (whole z) ns = refl
  ids_with (text s) ns = refl
  ids_with (list ds) ns = items_ids_with ds ns
  ids_with (object ms) ns = members_ids_with ms ns
  ids_with (id s z) ns = refl

  items_ids_with : (ds : Items) (ns : List ℤ)
      → items_ids (items_with_ids ds ns) ≡ renumbered (items_ids ds) ns
  items_ids_with no_items ns = refl
  items_ids_with (item d ds) ns =
      ap₂ (λ a b. a ++ b) (ids_with d ns) (items_ids_with ds (drop (id_count d) ns))
      ∙ ap (λ n. renumbered (ids d) ns ++ renumbered (items_ids ds) (drop n ns))
      (sym (count_ids d)) ∙ sym (renumbered-append (ids d) (items_ids ds) ns)

  members_ids_with : (ms : Members) (ns : List ℤ)
      → members_ids (members_with_ids ms ns) ≡ renumbered (members_ids ms) ns
  members_ids_with no_members ns = refl
  members_ids_with (member k d ms) ns =
      ap₂ (λ a b. a ++ b) (ids_with d ns) (members_ids_with ms (drop (id_count d) ns))
      ∙ ap (λ n. renumbered (ids d) ns ++ renumbered (members_ids ms) (drop n ns))
      (sym (count_ids d)) ∙ sym (renumbered-append (ids d) (members_ids ms) ns)

sorts-renumbered : (xs : List (Sort × ℤ)) (ns : List ℤ) → sorts_of (renumbered xs ns) ≡ sorts_of xs
sorts-renumbered [] ns = refl
sorts-renumbered (x ∷ xs) ns = ap (λ ss. x.0 ∷ ss) (sorts-renumbered xs (drop 1 ns))

numbers-renumbered : (xs : List (Sort × ℤ)) (ns : List ℤ) → length ns ≡ length xs
    → numbers_of (renumbered xs ns) ≡ ns
numbers-renumbered [] [] h = refl
numbers-renumbered [] (n ∷ ns) h = absurd (omega (arith, h))
numbers-renumbered (x ∷ xs) [] h = absurd (omega (arith, h))
numbers-renumbered (x ∷ xs) (n ∷ ns) h =
    ap (λ ms. n ∷ ms) (numbers-renumbered xs ns (omega (arith, h)))

-- ids of the same kinds with their numbers
renumbered-numbers : (xs ys : List (Sort × ℤ)) → sorts_of ys ≡ sorts_of xs
    → renumbered xs (numbers_of ys) ≡ ys
renumbered-numbers [] [] h = refl
renumbered-numbers [] (y ∷ ys) h = cc
renumbered-numbers (x ∷ xs) [] h = cc
renumbered-numbers (x ∷ xs) (y ∷ ys) h =
    let first : y.0 ≡ x.0 = cc in
    let rest : sorts_of ys ≡ sorts_of xs = cc in
    ap₂ (λ s r. (s, y.1) ∷ r) (sym first) (renumbered-numbers xs ys rest)

pub sorts-with : (d : Doc) (ns : List ℤ) → sorts_of (ids (with_ids d ns)) ≡ sorts_of (ids d)
sorts-with d ns = ap sorts_of (ids_with d ns) ∙ sorts-renumbered (ids d) ns

pub numbers-with : (d : Doc) (ns : List ℤ) → length ns ≡ id_count d
    → numbers_of (ids (with_ids d ns)) ≡ ns
numbers-with d ns h =
    ap numbers_of (ids_with d ns) ∙ numbers-renumbered (ids d) ns (h ∙ sym (count_ids d))

pub ids-with_numbers : (d : Doc) (is : List (Sort × ℤ)) → sorts_of is ≡ sorts_of (ids d)
    → ids (with_ids d (numbers_of is)) ≡ is
ids-with_numbers d is h = ids_with d (numbers_of is) ∙ renumbered-numbers (ids d) is h

-- ---- skeletons

mutual
  pub skeleton-with : (d : Doc) (ns : List ℤ) → skeleton (with_ids d ns) ≡ skeleton d
  skeleton-with null ns = refl
  skeleton-with (boolean b) ns = refl
  skeleton-with (whole z) ns = refl
  skeleton-with (text s) ns = refl
  skeleton-with (list ds) ns = ap list (items_skeleton-with ds ns)
  skeleton-with (object ms) ns = ap object (members_skeleton-with ms ns)
  skeleton-with (id s z) ns = refl

  items_skeleton-with : (ds : Items) (ns : List ℤ)
      → items_skeleton (items_with_ids ds ns) ≡ items_skeleton ds
  items_skeleton-with no_items ns = refl
  items_skeleton-with (item d ds) ns =
      ap₂ item (skeleton-with d ns) (items_skeleton-with ds (drop (id_count d) ns))

  members_skeleton-with : (ms : Members) (ns : List ℤ)
      → members_skeleton (members_with_ids ms ns) ≡ members_skeleton ms
  members_skeleton-with no_members ns = refl
  members_skeleton-with (member k d ms) ns =
      ap₂ (member k) (skeleton-with d ns) (members_skeleton-with ms (drop (id_count d) ns))

-- a skeleton is the document with zeros at its ids
abbrev zeros : ℕ → List ℤ
zeros zero = []
zeros (suc n) = pos 0 ∷ zeros n

drop-zeros : (k n : ℕ) → drop k (zeros n) ≡ zeros (n - k)
drop-zeros zero n = let same : n ≡ n - 0 = omega arith in ap zeros same
drop-zeros (suc k) zero = let none : 0 ≡ 0 - suc k = omega arith in ap zeros none
drop-zeros (suc k) (suc n) = let same : n - k ≡ suc n - suc k =
    omega arith in drop-zeros k n ∙ ap zeros same

one_zero : (s : Sort) (z : ℤ) (n : ℕ) → 1 ≤ n → id s (get_or (zeros n) 0 z) ≡ id s (pos 0)
one_zero s z zero h = absurd (omega (arith, h))
one_zero s z (suc n) h = refl

mutual
  with-zeros : (d : Doc) (n : ℕ) → id_count d ≤ n → with_ids d (zeros n) ≡ skeleton d
  with-zeros null n h = refl
  with-zeros (boolean b) n h = refl
  with-zeros (whole z) n h = refl
  with-zeros (text s) n h = refl
  with-zeros (list ds) n h = ap list (items_with-zeros ds n h)
  with-zeros (object ms) n h = ap object (members_with-zeros ms n h)
  with-zeros (id s z) n h = one_zero s z n h

  items_with-zeros : (ds : Items) (n : ℕ) → items_id_count ds ≤ n
      → items_with_ids ds (zeros n) ≡ items_skeleton ds
  items_with-zeros no_items n h = refl
  items_with-zeros (item d ds) n h =
      let first : id_count d ≤ n = omega (arith, h) in
      let rest : items_id_count ds ≤ n - id_count d = omega (arith, h) in
      ap₂ item (with-zeros d n first) (ap (items_with_ids ds) (drop-zeros (id_count d) n)
      ∙ items_with-zeros ds (n - id_count d) rest)

  members_with-zeros : (ms : Members) (n : ℕ) → members_id_count ms ≤ n
      → members_with_ids ms (zeros n) ≡ members_skeleton ms
  members_with-zeros no_members n h = refl
  members_with-zeros (member k d ms) n h =
      let first : id_count d ≤ n = omega (arith, h) in
      let rest : members_id_count ms ≤ n - id_count d = omega (arith, h) in
      ap₂ (member k) (with-zeros d n first) (ap (members_with_ids ms) (drop-zeros (id_count d) n)
      ∙ members_with-zeros ms (n - id_count d) rest)

skeleton_is : (d : Doc) → with_ids d (zeros (id_count d)) ≡ skeleton d
skeleton_is d = with-zeros d (id_count d) (omega arith)

pub depth-skeleton : (d : Doc) → depth (skeleton d) ≡ depth d
depth-skeleton d = ap depth (sym (skeleton_is d)) ∙ depth_with d (zeros (id_count d))

pub sound-skeleton : (d : Doc) → is_sound (skeleton d) ≡ is_sound d
sound-skeleton d = ap is_sound (sym (skeleton_is d)) ∙ sound_with d (zeros (id_count d))

pub ordered-skeleton : (d : Doc) → is_ordered (skeleton d) ≡ is_ordered d
ordered-skeleton d = ap is_ordered (sym (skeleton_is d)) ∙ ordered_with d (zeros (id_count d))

pub utf8-skeleton : (d : Doc) → all_utf8 (skeleton d) ≡ all_utf8 d
utf8-skeleton d = ap all_utf8 (sym (skeleton_is d)) ∙ utf8_with d (zeros (id_count d))

sorts-skeleton : (d : Doc) → sorts_of (ids (skeleton d)) ≡ sorts_of (ids d)
sorts-skeleton d =
    ap (λ e. sorts_of (ids e)) (sym (skeleton_is d)) ∙ sorts-with d (zeros (id_count d))

pub sorts_alike : (d e : Doc) → skeleton d ≡ skeleton e → sorts_of (ids d) ≡ sorts_of (ids e)
sorts_alike d e h = sym (sorts-skeleton d) ∙ ap (λ f. sorts_of (ids f)) h ∙ sorts-skeleton e

count_sorts : (d : Doc) → length (sorts_of (ids d)) ≡ id_count d
count_sorts d = length-map (ids d) (λ i. i.0) ∙ count_ids d

pub count_alike : (d e : Doc) → skeleton d ≡ skeleton e → id_count d ≡ id_count e
count_alike d e h = sym (count_sorts d) ∙ ap length (sorts_alike d e h) ∙ count_sorts e

-- ---- a skeleton and its ids determine the document

numbers-append : (xs ys : List (Sort × ℤ)) (more : List ℤ)
    → numbers_of (xs ++ ys) ++ more ≡ numbers_of xs ++ (numbers_of ys ++ more)
numbers-append [] ys more = refl
numbers-append (x ∷ xs) ys more = ap (λ ns. x.1 ∷ ns) (numbers-append xs ys more)

mutual
  reported : (d e : Doc) (xs ys : List ℤ) → skeleton d ≡ skeleton e
      → numbers_of (ids d) ++ xs ≡ numbers_of (ids e) ++ ys → (d ≡ e) × (xs ≡ ys)
  reported null null xs ys h k = (refl, k)
  reported (boolean a) (boolean b) xs ys h k = (cc, k)
  reported (whole a) (whole b) xs ys h k = (cc, k)
  reported (text a) (text b) xs ys h k = (cc, k)
  reported (list ds) (list es) xs ys h k = let r = items_told ds es xs ys (cc) k in
      (ap list r.0, r.1)
  reported (object ms) (object ns) xs ys h k = let r =
      members_told ms ns xs ys (cc) k in (ap object r.0, r.1)
  reported (id s a) (id t b) xs ys h k =
      (let sort : s ≡ t = cc in let number : a ≡ b = cc in rw (sort, number) refl, cc)
  reported d e xs ys h k = absurd cc

  items_told : (ds es : Items) (xs ys : List ℤ) → items_skeleton ds ≡ items_skeleton es
      → numbers_of (items_ids ds) ++ xs ≡ numbers_of (items_ids es) ++ ys → (ds ≡ es) × (xs ≡ ys)
  items_told no_items no_items xs ys h k = (refl, k)
  items_told (item d ds) (item e es) xs ys h k =
      let first =
      reported d e (numbers_of (items_ids ds) ++ xs) (numbers_of (items_ids es) ++ ys) (cc)
      (sym (numbers-append (ids d) (items_ids ds) xs) ∙ k
      ∙ numbers-append (ids e) (items_ids es) ys) in
      let rest = items_told ds es xs ys (cc) first.1 in
      (ap₂ item first.0 rest.0, rest.1)
  items_told ds es xs ys h k = absurd cc

  members_told : (ms ns : Members) (xs ys : List ℤ) → members_skeleton ms ≡ members_skeleton ns
      → numbers_of (members_ids ms) ++ xs ≡ numbers_of (members_ids ns) ++ ys
      → (ms ≡ ns) × (xs ≡ ys)
  members_told no_members no_members xs ys h k = (refl, k)
  members_told (member a d ms) (member b e ns) xs ys h k =
      let first =
      reported d e (numbers_of (members_ids ms) ++ xs) (numbers_of (members_ids ns) ++ ys) (cc)
      (sym (numbers-append (ids d) (members_ids ms) xs) ∙ k
      ∙ numbers-append (ids e) (members_ids ns) ys) in
      let rest = members_told ms ns xs ys (cc) first.1 in
      let named : a ≡ b = cc in
      (rw (named, first.0, rest.0) refl, rest.1)
  members_told ms ns xs ys h k = absurd cc

pub same_from_skeleton : (d e : Doc) → skeleton d ≡ skeleton e → ids d ≡ ids e → d ≡ e
same_from_skeleton d e h k = (reported d e [] [] h (ap (λ is. numbers_of is ++ []) k)).0

-- replacing the numbers by the document's own numbers does not change it
pub with_own : (d : Doc) → with_ids d (numbers_of (ids d)) ≡ d
with_own d =
    same_from_skeleton (with_ids d (numbers_of (ids d))) d (skeleton-with d (numbers_of (ids d)))
    (ids-with_numbers d (ids d) refl)

-- replacing the numbers by those of a document with the same skeleton yields that document
pub with_others : (d e : Doc) → skeleton d ≡ skeleton e → with_ids d (numbers_of (ids e)) ≡ e
with_others d e h =
    let ns = numbers_of (ids e) in
    same_from_skeleton (with_ids d ns) e (skeleton-with d ns ∙ h)
    (ids-with_numbers d (ids e) (sym (sorts_alike d e h)))
