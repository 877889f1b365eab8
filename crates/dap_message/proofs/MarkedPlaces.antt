-- Marks as a list of row paths with kinds of ids: their effect on an array, an object and a number,
-- and that paths of different kinds never match the same path.
use Rattle.dap_tree.specs.Doc.{Doc, null, boolean, whole, text, list, object, id, Items, no_items}
use Rattle.dap_tree.specs.Doc.{item, Members, no_members, member, change_member, map_items}
use Rattle.dap_tree.specs.Ids.{ids, items_ids, members_ids, id_count, with_ids, items_with_ids}
use Rattle.dap_tree.specs.Ids.{members_with_ids, without_ids, items_without_ids}
use Rattle.dap_tree.specs.Ids.{members_without_ids}
use Rattle.dap_tree.specs.declared.sort.Sort.{Sort}
use Rattle.dap_tree.specs.declared.sort.Sort.TheVariants.{Reference}
use Rattle.dap_tree.proofs.Booleans.{and_left, and_right, and_both}
use Rattle.std.proofs.Common.{◌≡◌, ℕ, ℤ, pos, negsuc, Bool, true, false, cond, not, ◌&&◌, List, []}
use Rattle.std.proofs.Common.{◌∷◌, ◌++◌, drop, get_or, nat_cmp, refl, sym, ◌∙◌, ap, ap₂, bytes_eq}
use Rattle.std.proofs.Common.{arith}
use Rattle.std.proofs.lemmas.Bool.Decides.{nat_tests, Decides-int_eq}
use Rattle.std.proofs.lemmas.List.Folds.{list_all-append}
use Rattle.std.proofs.lemmas.Map.Text.{is_eq-slice_cmp}
use Rattle.std.proofs.lemmas.Slice.Eq.{bytes_eq-Decides}
use Rattle.std.specs.Cmp.Lexicographic.{slice_cmp}
use Rattle.std.specs.List.{list_all}
use Rattle.std.specs.Ordering.{int_eq}
use Rattle.dap_profile.specs.PlaceSteps.{PlaceStep, named, each}
use Rattle.dap_message.specs.Marks.{is_id_of, marked, edit}
use Rattle.dap_message.specs.Numbers.{is_small}
use Rattle.dap_message.specs.Rows.{is_id_number}
use Rattle.dap_message.proofs.NameOrder.{equal_at, other_at}
use Rattle.dap_message.proofs.Edits.{by_bool}

-- row paths at which numbers become ids of a kind, one after another
pub data Pending : Type 0 where
  done : Pending
  mark_at : Sort → List PlaceStep → Pending → Pending

abbrev pub edits : Pending → Doc → Doc
edits done d = d
edits (mark_at s ps es) d = edits es (edit ps (marked s) d)

-- ---- the items of an array

-- the pending marks for each item of an array
abbrev for_items : Pending → Pending
for_items done = done
for_items (mark_at s [] es) = for_items es
for_items (mark_at s (named k ∷ ps) es) = for_items es
for_items (mark_at s (each ∷ ps) es) = mark_at s ps (for_items es)

map_items-map_items : (f g : Doc → Doc) (ds : Items)
    → map_items g (map_items f ds) ≡ map_items (λ d. g (f d)) ds
map_items-map_items f g no_items = refl
map_items-map_items f g (item d ds) = ap (item (g (f d))) (map_items-map_items f g ds)

map_items-itself : (ds : Items) → map_items (λ d. d) ds ≡ ds
map_items-itself no_items = refl
map_items-itself (item d ds) = ap (item d) (map_items-itself ds)

edits-list : (es : Pending) (ds : Items)
    → edits es (list ds) ≡ list (map_items (edits (for_items es)) ds)
edits-list done ds = sym (ap list (map_items-itself ds))
edits-list (mark_at s [] es) ds = edits-list es ds
edits-list (mark_at s (named k ∷ ps) es) ds = edits-list es ds
edits-list (mark_at s (each ∷ ps) es) ds =
    edits-list es (map_items (edit ps (marked s)) ds)
    ∙ ap list (map_items-map_items (edit ps (marked s)) (edits (for_items es)) ds)

-- ---- the members of an object

-- the pending marks for the first member with a name, and for the members after it
abbrev for_member : List ℕ → Pending → Pending
for_member l done = done
for_member l (mark_at s [] es) = for_member l es
for_member l (mark_at s (named k ∷ ps) es) =
    cond (bytes_eq k l) (mark_at s ps (for_member l es)) (for_member l es)
for_member l (mark_at s (each ∷ ps) es) = for_member l es

abbrev for_others : List ℕ → Pending → Pending
for_others l done = done
for_others l (mark_at s [] es) = for_others l es
for_others l (mark_at s (named k ∷ ps) es) =
    cond (bytes_eq k l) (for_others l es) (mark_at s (named k ∷ ps) (for_others l es))
for_others l (mark_at s (each ∷ ps) es) = for_others l es

abbrev members_edits : Pending → Members → Members
members_edits done ms = ms
members_edits (mark_at s [] es) ms = members_edits es ms
members_edits (mark_at s (named k ∷ ps) es) ms =
    members_edits es (change_member k (edit ps (marked s)) ms)
members_edits (mark_at s (each ∷ ps) es) ms = members_edits es ms

edits-object : (es : Pending) (ms : Members) → edits es (object ms) ≡ object (members_edits es ms)
edits-object done ms = refl
edits-object (mark_at s [] es) ms = edits-object es ms
edits-object (mark_at s (named k ∷ ps) es) ms =
    edits-object es (change_member k (edit ps (marked s)) ms)
edits-object (mark_at s (each ∷ ps) es) ms = edits-object es ms

change_member-here : (k l : List ℕ) (f : Doc → Doc) (d : Doc) (ms : Members) → bytes_eq k l ≡ true
    → change_member k f (member l d ms) ≡ member l (f d) ms
change_member-here k l f d ms h =
    equal_at (slice_cmp nat_cmp k l) (member l d (change_member k f ms)) (member l (f d) ms)
    (is_eq-slice_cmp k l ∙ h)

change_member-later : (k l : List ℕ) (f : Doc → Doc) (d : Doc) (ms : Members) → bytes_eq k l ≡ false
    → change_member k f (member l d ms) ≡ member l d (change_member k f ms)
change_member-later k l f d ms h =
    other_at (slice_cmp nat_cmp k l) (member l d (change_member k f ms)) (member l (f d) ms)
    (is_eq-slice_cmp k l ∙ h)

abbrev SplitsMember : Pending → List ℕ → Doc → Members → Type 0
SplitsMember es l d ms =
    members_edits es (member l d ms)
    ≡ member l (edits (for_member l es) d) (members_edits (for_others l es) ms)

named_step : (k l : List ℕ) (s : Sort) (ps : List PlaceStep) (es : Pending) (d : Doc) (ms : Members)
    (b : Bool) → bytes_eq k l ≡ b
    → ((e : Doc) (os : Members) → SplitsMember es l e os)
    → members_edits es (change_member k (edit ps (marked s)) (member l d ms))
    ≡ member l (edits (cond b (mark_at s ps (for_member l es)) (for_member l es)) d)
    (members_edits (cond b (for_others l es) (mark_at s (named k ∷ ps) (for_others l es))) ms)
named_step k l s ps es d ms true h later =
    ap (members_edits es) (change_member-here k l (edit ps (marked s)) d ms h)
    ∙ later (edit ps (marked s) d) ms
named_step k l s ps es d ms false h later =
    ap (members_edits es) (change_member-later k l (edit ps (marked s)) d ms h)
    ∙ later d (change_member k (edit ps (marked s)) ms)

members_edits-member : (es : Pending) (l : List ℕ) (d : Doc) (ms : Members) → SplitsMember es l d ms
members_edits-member done l d ms = refl
members_edits-member (mark_at s [] es) l d ms = members_edits-member es l d ms
members_edits-member (mark_at s (named k ∷ ps) es) l d ms =
    named_step k l s ps es d ms (bytes_eq k l) refl (λ e os. members_edits-member es l e os)
members_edits-member (mark_at s (each ∷ ps) es) l d ms = members_edits-member es l d ms

-- ---- paths of different kinds do not meet

-- two row paths match a common path, whatever the document is
abbrev pub meet : List PlaceStep → List PlaceStep → Bool
meet [] [] = true
meet (named k ∷ ps) (named l ∷ qs) = bytes_eq k l && meet ps qs
meet (each ∷ ps) (each ∷ qs) = meet ps qs
meet _ _ = false

abbrev pub AgreeWith : Sort → List PlaceStep → Pending → Type 0
AgreeWith s ps done = Unit {0}
AgreeWith s ps (mark_at t qs es) = (meet ps qs ≡ true → s ≡ t) × AgreeWith s ps es

abbrev pub Agree : Pending → Type 0
Agree done = Unit {0}
Agree (mark_at s ps es) = AgreeWith s ps es × Agree es

agree_with_items : (s : Sort) (ps : List PlaceStep) (es : Pending) → AgreeWith s (each ∷ ps) es
    → AgreeWith s ps (for_items es)
agree_with_items s ps done h = tt
agree_with_items s ps (mark_at t [] es) h = agree_with_items s ps es h.1
agree_with_items s ps (mark_at t (named k ∷ qs) es) h = agree_with_items s ps es h.1
agree_with_items s ps (mark_at t (each ∷ qs) es) h = (h.0, agree_with_items s ps es h.1)

agree_items : (es : Pending) → Agree es → Agree (for_items es)
agree_items done h = tt
agree_items (mark_at s [] es) h = agree_items es h.1
agree_items (mark_at s (named k ∷ ps) es) h = agree_items es h.1
agree_items (mark_at s (each ∷ ps) es) h = (agree_with_items s ps es h.0, agree_items es h.1)

one_name : (k j l : List ℕ) → bytes_eq k l ≡ true → bytes_eq j l ≡ true → bytes_eq k j ≡ true
one_name k j l h g =
    (bytes_eq-Decides k j).1 ((bytes_eq-Decides k l).0 h ∙ sym ((bytes_eq-Decides j l).0 g))

agree_with_named : (k j l : List ℕ) (s t : Sort) (ps qs : List PlaceStep) (es : Pending)
    → bytes_eq k l ≡ true → (meet (named k ∷ ps) (named j ∷ qs) ≡ true → s ≡ t) → (c : Bool)
    → bytes_eq j l ≡ c
    → AgreeWith s ps (for_member l es)
    → AgreeWith s ps (cond c (mark_at t qs (for_member l es)) (for_member l es))
agree_with_named k j l s t ps qs es b h true c rest =
    (λ m. h (and_both (bytes_eq k j) (meet ps qs) (one_name k j l b c) m), rest)
agree_with_named k j l s t ps qs es b h false c rest = rest

agree_with_member : (k l : List ℕ) (s : Sort) (ps : List PlaceStep) (es : Pending)
    → bytes_eq k l ≡ true → AgreeWith s (named k ∷ ps) es → AgreeWith s ps (for_member l es)
agree_with_member k l s ps done b h = tt
agree_with_member k l s ps (mark_at t [] es) b h = agree_with_member k l s ps es b h.1
agree_with_member k l s ps (mark_at t (named j ∷ qs) es) b h =
    agree_with_named k j l s t ps qs es b h.0 (bytes_eq j l) refl
    (agree_with_member k l s ps es b h.1)
agree_with_member k l s ps (mark_at t (each ∷ qs) es) b h = agree_with_member k l s ps es b h.1

agree_named : (k l : List ℕ) (s : Sort) (ps : List PlaceStep) (es : Pending)
    → AgreeWith s (named k ∷ ps) es → (c : Bool) → bytes_eq k l ≡ c → Agree (for_member l es)
    → Agree (cond c (mark_at s ps (for_member l es)) (for_member l es))
agree_named k l s ps es h true c rest = (agree_with_member k l s ps es c h, rest)
agree_named k l s ps es h false c rest = rest

agree_member : (l : List ℕ) (es : Pending) → Agree es → Agree (for_member l es)
agree_member l done h = tt
agree_member l (mark_at s [] es) h = agree_member l es h.1
agree_member l (mark_at s (named k ∷ ps) es) h =
    agree_named k l s ps es h.0 (bytes_eq k l) refl (agree_member l es h.1)
agree_member l (mark_at s (each ∷ ps) es) h = agree_member l es h.1

kept_with : (c : Bool) (s t : Sort) (ps qs : List PlaceStep) (es : Pending)
    → (meet ps qs ≡ true → s ≡ t) → AgreeWith s ps es → AgreeWith s ps (cond c es (mark_at t qs es))
kept_with true s t ps qs es h rest = rest
kept_with false s t ps qs es h rest = (h, rest)

agree_with_others : (l : List ℕ) (s : Sort) (ps : List PlaceStep) (es : Pending) → AgreeWith s ps es
    → AgreeWith s ps (for_others l es)
agree_with_others l s ps done h = tt
agree_with_others l s ps (mark_at t [] es) h = agree_with_others l s ps es h.1
agree_with_others l s ps (mark_at t (named k ∷ qs) es) h =
    kept_with (bytes_eq k l) s t ps (named k ∷ qs) (for_others l es) h.0
    (agree_with_others l s ps es h.1)
agree_with_others l s ps (mark_at t (each ∷ qs) es) h = agree_with_others l s ps es h.1

kept : (c : Bool) (s : Sort) (ps : List PlaceStep) (es : Pending) → AgreeWith s ps es → Agree es
    → Agree (cond c es (mark_at s ps es))
kept true s ps es h rest = rest
kept false s ps es h rest = (h, rest)

agree_others : (l : List ℕ) (es : Pending) → Agree es → Agree (for_others l es)
agree_others l done h = tt
agree_others l (mark_at s [] es) h = agree_others l es h.1
agree_others l (mark_at s (named k ∷ ps) es) h =
    kept (bytes_eq k l) s (named k ∷ ps) (for_others l es)
    (agree_with_others l s (named k ∷ ps) es h.0) (agree_others l es h.1)
agree_others l (mark_at s (each ∷ ps) es) h = agree_others l es h.1

-- ---- a number

edits-id : (es : Pending) (s : Sort) (z : ℤ) → edits es (id s z) ≡ id s z
edits-id done s z = refl
edits-id (mark_at t [] es) s z = edits-id es s z
edits-id (mark_at t (named k ∷ ps) es) s z = edits-id es s z
edits-id (mark_at t (each ∷ ps) es) s z = edits-id es s z

same_sorts : (s t : Sort) (y z : ℤ) → id s y ≡ id t z → s ≡ t
same_sorts s t y z h = cc

-- if a row path matches a number that a later one turns into an id, both have the same kind
agreed : (t : Sort) (es : Pending) (s : Sort) (z : ℤ) → AgreeWith t [] es
    → edits es (whole z) ≡ id s z → t ≡ s
agreed t done s z a h = cc
agreed t (mark_at u [] es) s z a h =
    by_bool (is_id_of u z)
    (λ e. a.0 refl
    ∙ same_sorts u s z z (sym (edits-id es u z)
    ∙ ap (λ b. edits es (cond b (id u z) (whole z))) (sym e) ∙ h))
    (λ e. agreed t es s z a.1 (ap (λ b. edits es (cond b (id u z) (whole z))) (sym e) ∙ h))
agreed t (mark_at u (named k ∷ ps) es) s z a h = agreed t es s z a.1 h
agreed t (mark_at u (each ∷ ps) es) s z a h = agreed t es s z a.1 h

small_number : (z : ℤ) → is_small z ≡ true → is_id_number z ≡ true
small_number (pos n) h = grind (arith, nat_tests)
small_number (negsuc n) h = cc

not_zero : (z : ℤ) → is_small z ≡ true → not (int_eq z (pos 0)) ≡ true
not_zero (pos n) h =
    by_bool (int_eq (pos n) (pos 0)) (λ e. let zero : is_small (pos 0)
    ≡ true = ap is_small (sym ((Decides-int_eq (pos n) (pos 0)).0 e)) ∙ h in cc) (λ e. ap not e)
not_zero (negsuc n) h = cc

small_id : (s : Sort) (z : ℤ) → is_small z ≡ true → is_id_of s z ≡ true
small_id Reference z h =
    and_both (is_id_number z) (not (int_eq z (pos 0))) (small_number z h) (not_zero z h)
small_id s z h = small_number z h

pub id_number : (s : Sort) (z : ℤ) → is_id_of s z ≡ true → is_id_number z ≡ true
id_number Reference z h = and_left (is_id_number z) (not (int_eq z (pos 0))) h
id_number s z h = h

-- row paths that turn one number into an id of a kind do so with every number that may be one
edits-other : (es : Pending) (s : Sort) (z y : ℤ) → Agree es → is_id_of s y ≡ true
    → edits es (whole z) ≡ id s z → edits es (whole y) ≡ id s y
edits-other done s z y a fit h = cc
edits-other (mark_at t [] es) s z y a fit h =
    let same : t ≡ s = agreed t (mark_at t [] es) s z ((λ m. refl), a.0) h in
    ap (λ b. edits es (cond b (id t y) (whole y))) (ap (λ u. is_id_of u y) same ∙ fit)
    ∙ edits-id es t y
    ∙ ap (λ r. id r y) same
edits-other (mark_at t (named k ∷ ps) es) s z y a fit h = edits-other es s z y a.1 fit h
edits-other (mark_at t (each ∷ ps) es) s z y a fit h = edits-other es s z y a.1 fit h

-- ---- a document

abbrev pub IdNumbers : List (Sort × ℤ) → Type 0
IdNumbers is = list_all (λ i. is_id_of i.0 i.1) is ≡ true

pub small_ids : (is : List (Sort × ℤ)) → list_all (λ i. is_small i.1) is ≡ true → IdNumbers is
small_ids [] h = refl
small_ids (i ∷ is) h =
    let later : list_all (λ j. is_small j.1) is ≡ true =
    and_right (is_small i.1) (list_all (λ j. is_small j.1) is) h in
    and_both (is_id_of i.0 i.1) (list_all (λ j. is_id_of j.0 j.1) is)
    (small_id i.0 i.1 (and_left (is_small i.1) (list_all (λ j. is_small j.1) is) h))
    (small_ids is later)

pub numbers_left : (xs ys : List (Sort × ℤ)) → IdNumbers (xs ++ ys) → IdNumbers xs
numbers_left xs ys h =
    and_left (list_all (λ i. is_id_of i.0 i.1) xs) (list_all (λ i. is_id_of i.0 i.1) ys)
    (sym (list_all-append (λ i. is_id_of i.0 i.1) xs ys) ∙ h)

pub numbers_right : (xs ys : List (Sort × ℤ)) → IdNumbers (xs ++ ys) → IdNumbers ys
numbers_right xs ys h =
    and_right (list_all (λ i. is_id_of i.0 i.1) xs) (list_all (λ i. is_id_of i.0 i.1) ys)
    (sym (list_all-append (λ i. is_id_of i.0 i.1) xs ys) ∙ h)

same_lists : (ds es : Items) → list ds ≡ list es → ds ≡ es
same_lists ds es h = cc

same_objects : (ms os : Members) → object ms ≡ object os → ms ≡ os
same_objects ms os h = cc

first_item : (d e : Doc) (ds es : Items) → item d ds ≡ item e es → d ≡ e
first_item d e ds es h = cc

later_items : (d e : Doc) (ds es : Items) → item d ds ≡ item e es → ds ≡ es
later_items d e ds es h = cc

first_member : (k l : List ℕ) (d e : Doc) (ms os : Members) → member k d ms ≡ member l e os → d ≡ e
first_member k l d e ms os h = cc

later_members : (k l : List ℕ) (d e : Doc) (ms os : Members) → member k d ms ≡ member l e os
    → ms ≡ os
later_members k l d e ms os h = cc

-- row paths that yield the ids of a document yield the same ids with other numbers
mutual
  pub edits-again : (es : Pending) → Agree es → (m : Doc) (ns : List ℤ)
      → IdNumbers (ids (with_ids m ns)) → edits es (without_ids m) ≡ m
      → edits es (without_ids (with_ids m ns)) ≡ with_ids m ns
  edits-again es a null ns fit h = h
  edits-again es a (boolean b) ns fit h = h
  edits-again es a (whole z) ns fit h = h
  edits-again es a (text s) ns fit h = h
  edits-again es a (list ds) ns fit h =
      edits-list es (items_without_ids (items_with_ids ds ns))
      ∙ ap list (items-again (for_items es) (agree_items es a) ds ns fit
      (same_lists _ _ (sym (edits-list es (items_without_ids ds)) ∙ h)))
  edits-again es a (object ms) ns fit h =
      edits-object es (members_without_ids (members_with_ids ms ns))
      ∙ ap object
      (members-again es a ms ns fit
      (same_objects _ _ (sym (edits-object es (members_without_ids ms)) ∙ h)))
  edits-again es a (id s z) ns fit h =
      edits-other es s z (get_or ns 0 z) a (and_left (is_id_of s (get_or ns 0 z)) true fit) h

  items-again : (es : Pending) → Agree es → (ds : Items) (ns : List ℤ)
      → IdNumbers (items_ids (items_with_ids ds ns))
      → map_items (edits es) (items_without_ids ds) ≡ ds
      → map_items (edits es) (items_without_ids (items_with_ids ds ns)) ≡ items_with_ids ds ns
  items-again es a no_items ns fit h = refl
  items-again es a (item d ds) ns fit h =
      let later = drop (id_count d) ns in
      ap₂ item (edits-again es a d ns
      (numbers_left (ids (with_ids d ns)) (items_ids (items_with_ids ds later)) fit)
      (first_item _ _ _ _ h))
      (items-again es a ds later
      (numbers_right (ids (with_ids d ns)) (items_ids (items_with_ids ds later)) fit)
      (later_items _ _ _ _ h))

  members-again : (es : Pending) → Agree es → (ms : Members) (ns : List ℤ)
      → IdNumbers (members_ids (members_with_ids ms ns))
      → members_edits es (members_without_ids ms) ≡ ms
      → members_edits es (members_without_ids (members_with_ids ms ns)) ≡ members_with_ids ms ns
  members-again es a no_members ns fit h = h
  members-again es a (member k d ms) ns fit h =
      let later = drop (id_count d) ns in
      let split = sym (members_edits-member es k (without_ids d) (members_without_ids ms)) ∙ h in
      members_edits-member es k (without_ids (with_ids d ns))
      (members_without_ids (members_with_ids ms later))
      ∙ ap₂ (member k)
      (edits-again (for_member k es) (agree_member k es a) d ns
      (numbers_left (ids (with_ids d ns)) (members_ids (members_with_ids ms later)) fit)
      (first_member _ _ _ _ _ _ split))
      (members-again (for_others k es) (agree_others k es a) ms later
      (numbers_right (ids (with_ids d ns)) (members_ids (members_with_ids ms later)) fit)
      (later_members _ _ _ _ _ _ split))
