-- The later rows of the profile, after the first ones: their effect on a message by the first rows,
-- even if its ids have other numbers.
use Rattle.dap_tree.specs.Doc.{Doc, null, boolean, whole, text, list, object, id, Items, no_items}
use Rattle.dap_tree.specs.Doc.{item, Members, no_members, member, change_member, change_child}
use Rattle.dap_tree.specs.Doc.{map_items, change_items, is_plain}
use Rattle.dap_tree.specs.Ids.{ids, items_ids, members_ids, skeleton, items_skeleton}
use Rattle.dap_tree.specs.Ids.{members_skeleton, without_ids, items_without_ids}
use Rattle.dap_tree.specs.Ids.{members_without_ids}
use Rattle.dap_tree.specs.Json.{text_of}
use Rattle.dap_tree.specs.declared.side.Side.{Side}
use Rattle.dap_tree.specs.declared.side.Side.TheVariants.{Client, Adapter}
use Rattle.dap_tree.specs.declared.sort.Sort.{Sort}
use Rattle.dap_tree.proofs.Booleans.{and_left, and_right}
use Rattle.dap_tree.proofs.MemberOrder.{read_is_ordered}
use Rattle.dap_tree.proofs.Outcomes.{read_once, read_is_plain}
use Rattle.dap_tree.proofs.Utf8.{read_is_utf8}
use Rattle.std.proofs.Common.{◌≡◌, ℕ, ℤ, pos, Bool, true, false, cond, not, List, [], ◌∷◌, ◌++◌}
use Rattle.std.proofs.Common.{Option, Some, None, Ordering, Less, Equal, Greater, nat_cmp, refl}
use Rattle.std.proofs.Common.{sym, ◌∙◌, ap, ap₂, subst}
use Rattle.std.proofs.lemmas.List.Elements.{filter-append}
use Rattle.std.specs.Cmp.Lexicographic.{slice_cmp}
use Rattle.std.specs.List.{filter, list_all}
use Rattle.std.specs.Option.{option_map_or}
use Rattle.std.specs.Ordering.{match_ordering}
use Rattle.dap_profile.specs.PlaceSteps.{PlaceStep, named, each}
use Rattle.dap_profile.specs.Profile.{profile, first_rows, later_rows}
use Rattle.dap_profile.specs.ProfileRows.{ProfileRow}
use Rattle.dap_profile.specs.declared.profile.Kind.{Kind}
use Rattle.dap_message.specs.Capabilities.{filled}
use Rattle.dap_message.specs.Faults.{Fits, FitsRows}
use Rattle.dap_message.specs.LaterIds.{is_later_sort, first_ids, later_ids, with_later_ids}
use Rattle.dap_message.specs.LaterIds.{HasLaterIds}
use Rattle.dap_message.specs.Marks.{is_id_of, marked, edit, mark_row, mark_rows, mark_by_rows}
use Rattle.dap_message.specs.Marks.{sort_of}
use Rattle.dap_message.specs.Message.{message_of, message_by_rows, IsTyped, IsTypedByRows}
use Rattle.dap_message.specs.Message.{IsTypedContent, IsTypedContentByRows}
use Rattle.dap_message.specs.Numbers.{has_id_numbers}
use Rattle.dap_message.specs.Rows.{row_applies}
use Rattle.dap_message.proofs.Edits.{by_bool}
use Rattle.dap_message.proofs.FilledFits.{first_fits}
use Rattle.dap_message.proofs.FilledOnce.{numbers-again}
use Rattle.dap_message.proofs.Shapes.{asked-shape, skeleton_keeps}
use Rattle.dap_message.proofs.SortsApart.{first_agree}
use Rattle.dap_message.proofs.TypedAgain.{filled_again, message_again, read_again, text_again}

-- ---- rows followed by rows

mark_rows-append : (xs ys : List ProfileRow) (side : Side) (d : Doc)
    → mark_rows (xs ++ ys) side d ≡ mark_rows ys side (mark_rows xs side d)
mark_rows-append [] ys side d = refl
mark_rows-append (r ∷ xs) ys side d = mark_rows-append xs ys side (mark_row r side d)

mark-later : (side : Side) (d : Doc)
    → mark_by_rows profile side d ≡ with_later_ids side (mark_by_rows first_rows side d)
unfolding mark_by_rows profile
mark-later side d = mark_rows-append first_rows later_rows side d

-- ---- ids of some kinds

abbrev among : (Sort → Bool) → List (Sort × ℤ) → List (Sort × ℤ)
among p is = filter (λ i. p i.0) is

joined : (p : Sort → Bool) (xs ys us vs : List (Sort × ℤ)) → among p xs ≡ among p us
    → among p ys ≡ among p vs → among p (xs ++ ys) ≡ among p (us ++ vs)
joined p xs ys us vs h g =
    filter-append (λ i. p i.0) xs ys ∙ ap₂ (λ a b. a ++ b) h g
    ∙ sym (filter-append (λ i. p i.0) us vs)

-- an id of another kind changes nothing
module _ (p : Sort → Bool) (f : Doc → Doc) (same : (d : Doc)
    → among p (ids (f d)) ≡ among p (ids d)) where
  among_at : (o : Ordering) (l : List ℕ) (d : Doc) (ms changed : Members)
      → among p (members_ids changed) ≡ among p (members_ids ms)
      → among p (members_ids
      (match_ordering o (member l d changed) (member l (f d) ms) (member l d changed)))
      ≡ among p (ids d ++ members_ids ms)
  among_at Less l d ms changed h =
      joined p (ids d) (members_ids changed) (ids d) (members_ids ms) refl h
  among_at Equal l d ms changed h =
      joined p (ids (f d)) (members_ids ms) (ids d) (members_ids ms) (same d) refl
  among_at Greater l d ms changed h =
      joined p (ids d) (members_ids changed) (ids d) (members_ids ms) refl h

  among-change_member : (k : List ℕ) (ms : Members)
      → among p (members_ids (change_member k f ms)) ≡ among p (members_ids ms)
  among-change_member k no_members = refl
  among-change_member k (member l d ms) =
      among_at (slice_cmp nat_cmp k l) l d ms (change_member k f ms) (among-change_member k ms)

  among-map : (ds : Items) → among p (items_ids (map_items f ds)) ≡ among p (items_ids ds)
  among-map no_items = refl
  among-map (item d ds) =
      joined p (ids (f d)) (items_ids (map_items f ds)) (ids d) (items_ids ds) (same d)
      (among-map ds)

  among-change : (k : List ℕ) (d : Doc) → among p (ids (change_child k f d)) ≡ among p (ids d)
  among-change k null = refl
  among-change k (boolean b) = refl
  among-change k (whole z) = refl
  among-change k (text s) = refl
  among-change k (list ds) = refl
  among-change k (object ms) = among-change_member k ms
  among-change k (id s z) = refl

  among-items : (d : Doc) → among p (ids (change_items f d)) ≡ among p (ids d)
  among-items null = refl
  among-items (boolean b) = refl
  among-items (whole z) = refl
  among-items (text s) = refl
  among-items (list ds) = among-map ds
  among-items (object ms) = refl
  among-items (id s z) = refl

among-marked : (p : Sort → Bool) (s : Sort) → p s ≡ false → (d : Doc)
    → among p (ids (marked s d)) ≡ among p (ids d)
among-marked p s h null = refl
among-marked p s h (boolean b) = refl
among-marked p s h (whole z) =
    by_bool (is_id_of s z)
    (λ e. rw e (ap (λ b. cond b ((s, z) ∷ []) []) h))
    (λ e. rw e refl)
among-marked p s h (text t) = refl
among-marked p s h (list ds) = refl
among-marked p s h (object ms) = refl
among-marked p s h (id r z) = refl

among-edit : (p : Sort → Bool) (ps : List PlaceStep) (s : Sort) → p s ≡ false → (d : Doc)
    → among p (ids (edit ps (marked s) d)) ≡ among p (ids d)
among-edit p [] s h d = among-marked p s h d
among-edit p (named k ∷ ps) s h d =
    among-change p (edit ps (marked s)) (λ e. among-edit p ps s h e) k d
among-edit p (each ∷ ps) s h d =
    among-items p (edit ps (marked s)) (λ e. among-edit p ps s h e) d

-- the row marks no id of these kinds
abbrev spares : (Sort → Bool) → Side → ProfileRow → Bool
spares p side r = option_map_or (λ s. not (p s)) (sort_of side r.want) true

not_true : (b : Bool) → not b ≡ true → b ≡ false
not_true true h = cc
not_true false h = refl

among-mark_row : (p : Sort → Bool) (r : ProfileRow) (side : Side) (d : Doc)
    → spares p side r ≡ true → among p (ids (mark_row r side d)) ≡ among p (ids d)
among-mark_row p r side d h = go (sort_of side r.want) (row_applies r.kind r.name d) h
  where
    go : (o : Option Sort) (b : Bool) → option_map_or (λ s. not (p s)) o true ≡ true
        → among p (ids (option_map_or (λ s. cond b (edit r.place (marked s) d) d) o d))
        ≡ among p (ids d)
    go None b h = refl
    go (Some s) true h = among-edit p r.place s (not_true (p s) h) d
    go (Some s) false h = refl

among-mark : (p : Sort → Bool) (rs : List ProfileRow) (side : Side) (d : Doc)
    → list_all (spares p side) rs ≡ true → among p (ids (mark_rows rs side d)) ≡ among p (ids d)
among-mark p [] side d h = refl
among-mark p (r ∷ rs) side d h =
    among-mark p rs side (mark_row r side d)
    (and_right (spares p side r) (list_all (spares p side) rs) h)
    ∙ among-mark_row p r side d (and_left (spares p side r) (list_all (spares p side) rs) h)

-- ---- the two parts of the profile

abbrev is_first_sort : Sort → Bool
is_first_sort s = not (is_later_sort s)

first_spares : (side : Side) → list_all (spares is_later_sort side) first_rows ≡ true
unfolding first_rows
first_spares Client = refl
first_spares Adapter = refl

later_spares : (side : Side) → list_all (spares is_first_sort side) later_rows ≡ true
unfolding later_rows
later_spares Client = refl
later_spares Adapter = refl

later-first : (side : Side) (d : Doc) → later_ids (mark_by_rows first_rows side d) ≡ later_ids d
unfolding mark_by_rows
later-first side d = among-mark is_later_sort first_rows side d (first_spares side)

first-later : (side : Side) (d : Doc) → first_ids (with_later_ids side d) ≡ first_ids d
unfolding mark_by_rows
first-later side d = among-mark is_first_sort later_rows side d (later_spares side)

-- ids as integers are not ids
mutual
  no_ids-without : (d : Doc) → ids (without_ids d) ≡ []
  no_ids-without null = refl
  no_ids-without (boolean b) = refl
  no_ids-without (whole z) = refl
  no_ids-without (text s) = refl
  no_ids-without (list ds) = no_items_ids-without ds
  no_ids-without (object ms) = no_members_ids-without ms
  no_ids-without (id s z) = refl

  no_items_ids-without : (ds : Items) → items_ids (items_without_ids ds) ≡ []
  no_items_ids-without no_items = refl
  no_items_ids-without (item d ds) =
      ap₂ (λ a b. a ++ b) (no_ids-without d) (no_items_ids-without ds)

  no_members_ids-without : (ms : Members) → members_ids (members_without_ids ms) ≡ []
  no_members_ids-without no_members = refl
  no_members_ids-without (member k d ms) =
      ap₂ (λ a b. a ++ b) (no_ids-without d) (no_members_ids-without ms)

-- a message by the first rows has no id of a later kind
none_later : (side : Side) (m : Doc) → m ≡ mark_by_rows first_rows side (without_ids m)
    → later_ids m ≡ []
none_later side m is =
    ap later_ids is ∙ later-first side (without_ids m)
    ∙ ap (among is_later_sort) (no_ids-without m)

all_first : (is : List (Sort × ℤ)) → among is_later_sort is ≡ [] → among is_first_sort is ≡ is
all_first [] h = refl
all_first (i ∷ is) h = go (is_later_sort i.0) h (λ g. all_first is g)
  where
    go : (b : Bool) → cond b (i ∷ among is_later_sort is) (among is_later_sort is) ≡ []
        → (among is_later_sort is ≡ [] → among is_first_sort is ≡ is)
        → cond (not b) (i ∷ among is_first_sort is) (among is_first_sort is) ≡ i ∷ is
    go true h rest = cc
    go false h rest = ap (λ js. i ∷ js) (rest h)

-- ---- the numbers of the first kinds set to 0

abbrev mutual
  zeroed : Doc → Doc
  zeroed null = null
  zeroed (boolean b) = boolean b
  zeroed (whole z) = whole z
  zeroed (text s) = text s
  zeroed (list ds) = list (items_zeroed ds)
  zeroed (object ms) = object (members_zeroed ms)
  zeroed (id s z) = id s (cond (is_later_sort s) z (pos 0))

  items_zeroed : Items → Items
  items_zeroed no_items = no_items
  items_zeroed (item d ds) = item (zeroed d) (items_zeroed ds)

  members_zeroed : Members → Members
  members_zeroed no_members = no_members
  members_zeroed (member k d ms) = member k (zeroed d) (members_zeroed ms)

mutual
  skeleton-zeroed : (d : Doc) → skeleton (zeroed d) ≡ skeleton d
  skeleton-zeroed null = refl
  skeleton-zeroed (boolean b) = refl
  skeleton-zeroed (whole z) = refl
  skeleton-zeroed (text s) = refl
  skeleton-zeroed (list ds) = ap list (items_skeleton-zeroed ds)
  skeleton-zeroed (object ms) = ap object (members_skeleton-zeroed ms)
  skeleton-zeroed (id s z) = refl

  items_skeleton-zeroed : (ds : Items) → items_skeleton (items_zeroed ds) ≡ items_skeleton ds
  items_skeleton-zeroed no_items = refl
  items_skeleton-zeroed (item d ds) = ap₂ item (skeleton-zeroed d) (items_skeleton-zeroed ds)

  members_skeleton-zeroed : (ms : Members)
      → members_skeleton (members_zeroed ms) ≡ members_skeleton ms
  members_skeleton-zeroed no_members = refl
  members_skeleton-zeroed (member k d ms) =
      ap₂ (member k) (skeleton-zeroed d) (members_skeleton-zeroed ms)

-- the ids of later kinds are unchanged
abbrev one_id : Sort → ℤ → List (Sort × ℤ)
one_id s z = (s, z) ∷ []

one_kept : (s : Sort) (z : ℤ) (b : Bool)
    → cond b (one_id s (cond b z (pos 0))) [] ≡ cond b (one_id s z) []
one_kept s z true = refl
one_kept s z false = refl

mutual
  later-zeroed : (d : Doc) → later_ids (zeroed d) ≡ later_ids d
  later-zeroed null = refl
  later-zeroed (boolean b) = refl
  later-zeroed (whole z) = refl
  later-zeroed (text s) = refl
  later-zeroed (list ds) = later_items-zeroed ds
  later-zeroed (object ms) = later_members-zeroed ms
  later-zeroed (id s z) = one_kept s z (is_later_sort s)

  later_items-zeroed : (ds : Items)
      → among is_later_sort (items_ids (items_zeroed ds)) ≡ among is_later_sort (items_ids ds)
  later_items-zeroed no_items = refl
  later_items-zeroed (item d ds) =
      joined is_later_sort (ids (zeroed d)) (items_ids (items_zeroed ds)) (ids d) (items_ids ds)
      (later-zeroed d) (later_items-zeroed ds)

  later_members-zeroed : (ms : Members)
      → among is_later_sort (members_ids (members_zeroed ms)) ≡ among is_later_sort (members_ids ms)
  later_members-zeroed no_members = refl
  later_members-zeroed (member k d ms) =
      joined is_later_sort (ids (zeroed d)) (members_ids (members_zeroed ms)) (ids d)
      (members_ids ms) (later-zeroed d) (later_members-zeroed ms)

none_left : (xs ys : List (Sort × ℤ)) → xs ++ ys ≡ [] → xs ≡ []
none_left [] ys h = refl
none_left (x ∷ xs) ys h = cc

none_right : (xs ys : List (Sort × ℤ)) → xs ++ ys ≡ [] → ys ≡ []
none_right [] ys h = h
none_right (x ∷ xs) ys h = cc

later_left : (xs ys : List (Sort × ℤ)) → among is_later_sort (xs ++ ys) ≡ []
    → among is_later_sort xs ≡ []
later_left xs ys h =
    none_left (among is_later_sort xs) (among is_later_sort ys)
    (sym (filter-append (λ i. is_later_sort i.0) xs ys) ∙ h)

later_right : (xs ys : List (Sort × ℤ)) → among is_later_sort (xs ++ ys) ≡ []
    → among is_later_sort ys ≡ []
later_right xs ys h =
    none_right (among is_later_sort xs) (among is_later_sort ys)
    (sym (filter-append (λ i. is_later_sort i.0) xs ys) ∙ h)

one_gone : (s : Sort) (z : ℤ) (b : Bool) → cond b (one_id s z) [] ≡ []
    → id s (cond b z (pos 0)) ≡ id s (pos 0)
one_gone s z true h = cc
one_gone s z false h = refl

-- if no id is of a later kind, the result is the skeleton
mutual
  zeroed-first : (d : Doc) → later_ids d ≡ [] → zeroed d ≡ skeleton d
  zeroed-first null h = refl
  zeroed-first (boolean b) h = refl
  zeroed-first (whole z) h = refl
  zeroed-first (text s) h = refl
  zeroed-first (list ds) h = ap list (items_zeroed-first ds h)
  zeroed-first (object ms) h = ap object (members_zeroed-first ms h)
  zeroed-first (id s z) h = one_gone s z (is_later_sort s) h

  items_zeroed-first : (ds : Items) → among is_later_sort (items_ids ds) ≡ []
      → items_zeroed ds ≡ items_skeleton ds
  items_zeroed-first no_items h = refl
  items_zeroed-first (item d ds) h =
      ap₂ item (zeroed-first d (later_left (ids d) (items_ids ds) h))
      (items_zeroed-first ds (later_right (ids d) (items_ids ds) h))

  members_zeroed-first : (ms : Members) → among is_later_sort (members_ids ms) ≡ []
      → members_zeroed ms ≡ members_skeleton ms
  members_zeroed-first no_members h = refl
  members_zeroed-first (member k d ms) h =
      ap₂ (member k) (zeroed-first d (later_left (ids d) (members_ids ms) h))
      (members_zeroed-first ms (later_right (ids d) (members_ids ms) h))

-- ---- later rows do not depend on these numbers

module _ (f : Doc → Doc) (same : (d : Doc) → zeroed (f d) ≡ f (zeroed d)) where
  zeroed_at : (o : Ordering) (l : List ℕ) (d : Doc) (ms changed there : Members)
      → members_zeroed changed ≡ there
      → members_zeroed (match_ordering o (member l d changed) (member l (f d) ms)
      (member l d changed))
      ≡ match_ordering o (member l (zeroed d) there) (member l (f (zeroed d)) (members_zeroed ms))
      (member l (zeroed d) there)
  zeroed_at Less l d ms changed there h = ap (member l (zeroed d)) h
  zeroed_at Equal l d ms changed there h = ap (λ e. member l e (members_zeroed ms)) (same d)
  zeroed_at Greater l d ms changed there h = ap (member l (zeroed d)) h

  zeroed-change_member : (k : List ℕ) (ms : Members)
      → members_zeroed (change_member k f ms) ≡ change_member k f (members_zeroed ms)
  zeroed-change_member k no_members = refl
  zeroed-change_member k (member l d ms) =
      zeroed_at (slice_cmp nat_cmp k l) l d ms (change_member k f ms)
      (change_member k f (members_zeroed ms)) (zeroed-change_member k ms)

  zeroed-map : (ds : Items) → items_zeroed (map_items f ds) ≡ map_items f (items_zeroed ds)
  zeroed-map no_items = refl
  zeroed-map (item d ds) = ap₂ item (same d) (zeroed-map ds)

  zeroed-change : (k : List ℕ) (d : Doc)
      → zeroed (change_child k f d) ≡ change_child k f (zeroed d)
  zeroed-change k null = refl
  zeroed-change k (boolean b) = refl
  zeroed-change k (whole z) = refl
  zeroed-change k (text s) = refl
  zeroed-change k (list ds) = refl
  zeroed-change k (object ms) = ap object (zeroed-change_member k ms)
  zeroed-change k (id s z) = refl

  zeroed-items : (d : Doc) → zeroed (change_items f d) ≡ change_items f (zeroed d)
  zeroed-items null = refl
  zeroed-items (boolean b) = refl
  zeroed-items (whole z) = refl
  zeroed-items (text s) = refl
  zeroed-items (list ds) = ap list (zeroed-map ds)
  zeroed-items (object ms) = refl
  zeroed-items (id s z) = refl

zeroed-marked : (s : Sort) → is_later_sort s ≡ true → (d : Doc)
    → zeroed (marked s d) ≡ marked s (zeroed d)
zeroed-marked s h null = refl
zeroed-marked s h (boolean b) = refl
zeroed-marked s h (whole z) =
    by_bool (is_id_of s z)
    (λ e. rw e (ap (λ b. id s (cond b z (pos 0))) h))
    (λ e. rw e refl)
zeroed-marked s h (text t) = refl
zeroed-marked s h (list ds) = refl
zeroed-marked s h (object ms) = refl
zeroed-marked s h (id r z) = refl

zeroed-edit : (ps : List PlaceStep) (s : Sort) → is_later_sort s ≡ true → (d : Doc)
    → zeroed (edit ps (marked s) d) ≡ edit ps (marked s) (zeroed d)
zeroed-edit [] s h d = zeroed-marked s h d
zeroed-edit (named k ∷ ps) s h d =
    zeroed-change (edit ps (marked s)) (λ e. zeroed-edit ps s h e) k d
zeroed-edit (each ∷ ps) s h d =
    zeroed-items (edit ps (marked s)) (λ e. zeroed-edit ps s h e) d

asked-zeroed : (k : Option Kind) (n : Option (List ℕ)) (d : Doc)
    → row_applies k n d ≡ row_applies k n (zeroed d)
asked-zeroed k n d =
    sym (asked-shape skeleton skeleton_keeps d k n)
    ∙ ap (row_applies k n) (sym (skeleton-zeroed d))
    ∙ asked-shape skeleton skeleton_keeps (zeroed d) k n

twice_not : (b : Bool) → not (not b) ≡ true → b ≡ true
twice_not true h = refl
twice_not false h = cc

zeroed-mark_row : (r : ProfileRow) (side : Side) (d : Doc) → spares is_first_sort side r ≡ true
    → zeroed (mark_row r side d) ≡ mark_row r side (zeroed d)
zeroed-mark_row r side d h =
    go (sort_of side r.want) (row_applies r.kind r.name d) h
    ∙ ap (λ b. option_map_or (λ s. cond b (edit r.place (marked s) (zeroed d)) (zeroed d))
    (sort_of side r.want) (zeroed d)) (asked-zeroed r.kind r.name d)
  where
    go : (o : Option Sort) (b : Bool)
        → option_map_or (λ s. not (is_first_sort s)) o true ≡ true
        → zeroed (option_map_or (λ s. cond b (edit r.place (marked s) d) d) o d)
        ≡ option_map_or (λ s. cond b (edit r.place (marked s) (zeroed d)) (zeroed d)) o (zeroed d)
    go None b h = refl
    go (Some s) true h = zeroed-edit r.place s (twice_not (is_later_sort s) h) d
    go (Some s) false h = refl

zeroed-mark : (rs : List ProfileRow) (side : Side) (d : Doc)
    → list_all (spares is_first_sort side) rs ≡ true
    → zeroed (mark_rows rs side d) ≡ mark_rows rs side (zeroed d)
zeroed-mark [] side d h = refl
zeroed-mark (r ∷ rs) side d h =
    zeroed-mark rs side (mark_row r side d)
    (and_right (spares is_first_sort side r) (list_all (spares is_first_sort side) rs) h)
    ∙ ap (mark_rows rs side)
    (zeroed-mark_row r side d
    (and_left (spares is_first_sort side r) (list_all (spares is_first_sort side) rs) h))

zeroed-later : (side : Side) (d : Doc)
    → zeroed (with_later_ids side d) ≡ with_later_ids side (zeroed d)
unfolding mark_by_rows
zeroed-later side d = zeroed-mark later_rows side d (later_spares side)

-- ---- messages

-- documents with the same skeleton and no ids of later kinds get the same ids of later kinds
zeroed_alike : (side : Side) (m n : Doc) → skeleton n ≡ skeleton m → later_ids m ≡ []
    → later_ids n ≡ [] → zeroed (with_later_ids side n) ≡ zeroed (with_later_ids side m)
zeroed_alike side m n same hm hn =
    zeroed-later side n
    ∙ ap (with_later_ids side) (zeroed-first n hn ∙ same ∙ sym (zeroed-first m hm))
    ∙ sym (zeroed-later side m)

later_given : (side : Side) (m n : Doc) → skeleton n ≡ skeleton m → later_ids m ≡ []
    → later_ids n ≡ [] → HasLaterIds side (with_later_ids side m) n
later_given side m n same hm hn =
    let alike = zeroed_alike side m n same hm hn in
    let a = with_later_ids side n in
    let b = with_later_ids side m in
    record {
      skeleton = sym (skeleton-zeroed a) ∙ ap skeleton alike ∙ skeleton-zeroed b;
      first = first-later side n ∙ all_first (ids n) hn;
      later = sym (later-zeroed a) ∙ ap later_ids alike ∙ later-zeroed b;
    }

-- a message is the message by the first rows with the ids of the later rows
pub message-later : (side : Side) (d : Doc)
    → message_of side d ≡ with_later_ids side (message_by_rows first_rows side d)
message-later side d = mark-later side (filled side d)

first_message : (side : Side) (d : Doc) → is_plain d ≡ true
    → message_by_rows first_rows side d
    ≡ mark_by_rows first_rows side (without_ids (message_by_rows first_rows side d))
first_message side d plain =
    ap (mark_by_rows first_rows side) (sym (numbers-again first_rows side d plain))

pub marked_in_two : (side : Side) (d old m : Doc) → is_plain d ≡ true
    → IsTypedByRows first_rows side d old → IsTyped side d m
    → (m ≡ with_later_ids side old) × (first_ids m ≡ ids old)
marked_in_two side d old m plain h g =
    let is : m ≡ with_later_ids side old =
    g.1 ∙ message-later side d ∙ ap (with_later_ids side) (sym h.1) in
    let none : later_ids old ≡ [] =
    none_later side old (h.1 ∙ first_message side d plain
    ∙ ap (λ e. mark_by_rows first_rows side (without_ids e)) (sym h.1)) in
    (is, ap first_ids is ∙ first-later side old ∙ all_first (ids old) none)

first_again : (side : Side) (d n : Doc) → is_plain d ≡ true → Fits d
    → skeleton n ≡ skeleton (message_by_rows first_rows side d) → has_id_numbers n ≡ true
    → IsTyped side (without_ids n) (with_later_ids side n)
    × HasLaterIds side (message_of side d) n
first_again side d n plain fits same fit =
    let old = message_by_rows first_rows side d in
    let again : n ≡ message_by_rows first_rows side (without_ids n) =
    message_again first_rows first_agree side d n plain fits same fit in
    let numbers : filled side (without_ids n) ≡ without_ids n =
    filled_again first_rows side d n plain fits same in
    let none : later_ids n ≡ [] =
    none_later side n (again ∙ ap (mark_by_rows first_rows side) numbers) in
    let old_none : later_ids old ≡ [] = none_later side old (first_message side d plain) in (
      (
        (read_again first_rows side d n plain fits same fit).1,
        ap (with_later_ids side) again ∙ sym (message-later side (without_ids n)),
      ),
      subst (λ m. HasLaterIds side m n) (sym (message-later side d))
          (later_given side old n same old_none none),
    )

-- a message by the first rows, with other numbers at its ids, is typed by the profile
pub document_later : (side : Side) (d old m n : Doc) → is_plain d ≡ true
    → IsTypedByRows first_rows side d old → IsTyped side d m → skeleton n ≡ skeleton old
    → has_id_numbers n ≡ true
    → IsTyped side (without_ids n) (with_later_ids side n) × HasLaterIds side m n
document_later side d old m n plain h g same fit =
    let again = first_again side d n plain g.0 (same ∙ ap skeleton h.1) fit in
    (again.0, subst (λ e. HasLaterIds side e n) (sym g.1) again.1)

pub content_later : (side : Side) (bytes : List ℕ) (old m n : Doc)
    → IsTypedContentByRows first_rows side bytes old → IsTypedContent side bytes m
    → skeleton n ≡ skeleton old → has_id_numbers n ≡ true
    → IsTypedContent side (text_of n) (with_later_ids side n) × HasLaterIds side m n
content_later side bytes old m n (d, reads, h) (e, reads_too, g) same fit =
    let one : e ≡ d = read_once bytes e d reads_too reads in
    let typed : IsTyped side d m = subst (λ x. IsTyped side x m) one g in
    let plain = read_is_plain bytes d reads in
    let again = document_later side d old m n plain h typed same fit in (
      (
        without_ids n,
        text_again first_rows side d n plain (read_is_ordered bytes d reads)
            (read_is_utf8 bytes d reads) (same ∙ ap skeleton h.1) fit,
        again.0,
      ),
      again.1,
    )

pub fits_first : (d : Doc) → Fits d → FitsRows first_rows d
fits_first d h = first_fits d h
