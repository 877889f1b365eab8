-- The test whether pairs map one document to another is correct.
use Rattle.std.proofs.Common.{◌≡◌, ℕ, suc, ◌+◌, ℤ, pos, Bool, true, false, ◌&&◌, ◌||◌, inl, inr}
use Rattle.std.proofs.Common.{eqb, List, [], ◌∷◌}
use Rattle.std.proofs.Common.{◌++◌, map, length, drop, ◌≤◌, refl, sym, ◌∙◌, ap, subst, arith}
use Rattle.std.proofs.lemmas.Bool.{and_parts, and_from, or_cases, ne_eqb}
use Rattle.std.proofs.lemmas.Bool.Decides.{Decides-int_eq}
use Rattle.std.proofs.lemmas.List.{length-map, map-append, drop_all}
use Rattle.std.specs.Cmp.{booleans_Decides}
use Rattle.std.specs.Cmp.Lexicographic.{bytes_decides}
use Rattle.std.specs.Ordering.{int_eq}
use Rattle.std.specs.Str.{bytes_eq}
use Rattle.dap_tree.specs.Doc.{Doc, null, boolean, whole, text, list, object, id, Items, no_items}
use Rattle.dap_tree.specs.Doc.{item, Members, no_members, member}
use Rattle.dap_tree.specs.Ids.{ids, items_ids, members_ids, skeleton, items_skeleton}
use Rattle.dap_tree.specs.Ids.{members_skeleton}
use Rattle.dap_tree.specs.Side.{same_side}
use Rattle.dap_tree.specs.declared.sort.Sort.{Sort}
use Rattle.dap_tree.proofs.IdNumbers.{count_alike, count_ids}
use Rattle.dap_tree.specs.View.{items_view}
use Rattle.dap_tree.specs.declared.tree.Tree.{Tree}
use Rattle.dap_message.specs.Message.{Sent, sent}
use Rattle.dap_message.specs.declared.message.Message.{Message}
use Rattle.dap_rename.specs.Messages.{Class, class_after, occurrence, occurrences, message_skeleton}
use Rattle.dap_rename.specs.Messages.{same_class}
use Rattle.dap_rename.specs.Laws.{IsToldBySkeleton}
use Rattle.dap_rename.specs.Renamings.{IsIn, AreRelated}
use Rattle.dap_rename.specs.Pairs.{class_of, entries}
use Rattle.dap_rename.specs.Sorts.{same_sort}
use Rattle.dap_rename.specs.Carrying.{has_pair, carries_doc, carries_items, carries_members}
use Rattle.dap_rename.specs.Carrying.{carries_sent, carries_list}
use Rattle.dap_rename.specs.declared.pair.Pair.{Pair}
use Rattle.dap_rename.proofs.Lists.{same_cons, head_of, tail_of}
use Rattle.dap_tree.proofs.Sides.{same_side_decides}
use Rattle.dap_tree.proofs.Sorts.{same_sort_told, told_same_sort}
use Rattle.dap_rename.proofs.Occurrences.{class_decides, same_sent}
use Rattle.dap_rename.proofs.Sameness.{related_front}

-- ---- lists of occurrences in two parts

pub related-append : {K : Type 0} (r : List (K × ℤ × ℤ)) (a b c d : List (K × ℤ)) → AreRelated r a c
    → AreRelated r b d → AreRelated r (a ++ b) (c ++ d)
related-append r [] b [] d h k = k
related-append r [] b (p ∷ c) d h k = absurd h
related-append r (o ∷ a) b [] d h k = absurd h
related-append r (o ∷ a) b (p ∷ c) d h k = (h.0, h.1, related-append r a b c d h.2 k)

pub related_rest : {K : Type 0} (r : List (K × ℤ × ℤ)) (a b c d : List (K × ℤ))
    → length a ≡ length c → AreRelated r (a ++ b) (c ++ d) → AreRelated r b d
related_rest r [] b [] d n h = h
related_rest r [] b (p ∷ c) d n h = absurd (omega (arith, n))
related_rest r (o ∷ a) b [] d n h = absurd (omega (arith, n))
related_rest r (o ∷ a) b (p ∷ c) d n h = related_rest r a b c d (omega (arith, n)) h.2

-- ids after k stops
abbrev pub ids_related : List (Class × ℤ × ℤ) → ℕ → List (Sort × ℤ) → List (Sort × ℤ) → Type 0
ids_related r k is js = AreRelated r (map (occurrence k) is) (map (occurrence k) js)

pub ids_append : (r : List (Class × ℤ × ℤ)) (k : ℕ) (a b c d : List (Sort × ℤ)) → ids_related r k a
    c
    → ids_related r k b d → ids_related r k (a ++ b) (c ++ d)
ids_append r k a b c d h g =
    rw (map-append (occurrence k) a b, map-append (occurrence k) c d)
    (related-append r (map (occurrence k) a) (map (occurrence k) b) (map (occurrence k) c)
    (map (occurrence k) d) h g)

pub ids_apart : (r : List (Class × ℤ × ℤ)) (k : ℕ) (a b c d : List (Sort × ℤ)) → length a ≡ length c
    → ids_related r k (a ++ b) (c ++ d) → ids_related r k a c × ids_related r k b d
ids_apart r k a b c d n h =
    let both = rw (map-append (occurrence k) a b, map-append (occurrence k) c d) at h in
    let count : length (map (occurrence k) a) ≡ length (map (occurrence k) c) =
    length-map a (occurrence k) ∙ (n ∙ sym (length-map c (occurrence k))) in (
      related_front r (map (occurrence k) a) (map (occurrence k) b) (map (occurrence k) c)
          (map (occurrence k) d) count both,
      related_rest r (map (occurrence k) a) (map (occurrence k) b) (map (occurrence k) c)
          (map (occurrence k) d) count both,
    )

-- ---- one pair

or_first : (a b : Bool) → a ≡ true → (a || b) ≡ true
or_first a b h = ap (λ c. c || b) h

or_second : (a b : Bool) → b ≡ true → (a || b) ≡ true
or_second true b h = refl
or_second false b h = h

pub entry_is : (c d : Class) (a b x y : ℤ) → c ≡ d → a ≡ x → b ≡ y
    → ◌≡◌ {A = Class × ℤ × ℤ} (d, x, y) (c, a, b)
entry_is c d a b x y e f g = rw (e, f, g) refl

pub has_pair_in : (ps : List Pair) (c : Class) (x y : ℤ) → has_pair ps c x y ≡ true
    → IsIn (c, x, y) (entries ps)
has_pair_in [] c x y h = absurd cc
has_pair_in (p ∷ ps) c x y h =
    elim (or_cases (same_class (class_of p) c && (int_eq p.from x && int_eq p.to y))
    (has_pair ps c x y) h) [
      | inl a ↦ let b =
          and_parts (same_class (class_of p) c) (int_eq p.from x && int_eq p.to y) a in
          let d = and_parts (int_eq p.from x) (int_eq p.to y) b.1 in
          inl (entry_is (class_of p) c p.from p.to x y ((class_decides (class_of p) c).0 b.0)
          ((Decides-int_eq p.from x).0 d.0) ((Decides-int_eq p.to y).0 d.1))
      | inr a ↦ inr (has_pair_in ps c x y a)
    ]

pub in_has_pair : (ps : List Pair) (c : Class) (x y : ℤ) → IsIn (c, x, y) (entries ps)
    → has_pair ps c x y ≡ true
in_has_pair [] c x y i = absurd i
in_has_pair (p ∷ ps) c x y (inl e) =
    let a : same_class (class_of p) c ≡ true =
    (class_decides (class_of p) c).1 (sym (ap (λ (t : Class × ℤ × ℤ). t.0) e)) in
    let b : int_eq p.from x ≡ true =
    (Decides-int_eq p.from x).1 (sym (ap (λ (t : Class × ℤ × ℤ). t.1) e)) in
    let d : int_eq p.to y ≡ true =
    (Decides-int_eq p.to y).1 (sym (ap (λ (t : Class × ℤ × ℤ). t.2) e)) in
    or_first (same_class (class_of p) c && (int_eq p.from x && int_eq p.to y)) (has_pair ps c x y)
    (and_from (same_class (class_of p) c) (int_eq p.from x && int_eq p.to y) a
    (and_from (int_eq p.from x) (int_eq p.to y) b d))
in_has_pair (p ∷ ps) c x y (inr i) =
    or_second (same_class (class_of p) c && (int_eq p.from x && int_eq p.to y)) (has_pair ps c x y)
    (in_has_pair ps c x y i)

-- ---- documents

-- the documents are equal except for the numbers of their ids, and the pairs relate these numbers
abbrev pub DocsCarried : List Pair → ℕ → Doc → Doc → Type 0
DocsCarried ps n d e = (skeleton d ≡ skeleton e) × ids_related (entries ps) n (ids d) (ids e)

mutual
  pub doc_carried : (ps : List Pair) (n : ℕ) (d e : Doc) → carries_doc ps n d e ≡ true → DocsCarried
      ps n d e
  doc_carried ps n null null h = (refl, tt)
  doc_carried ps n (boolean a) (boolean b) h = (ap boolean ((booleans_Decides a b).0 h), tt)
  doc_carried ps n (whole x) (whole y) h = (ap whole ((Decides-int_eq x y).0 h), tt)
  doc_carried ps n (text a) (text b) h = (ap text ((bytes_decides a b).0 h), tt)
  doc_carried ps n (list ds) (list es) h = let r = items_carried ps n ds es h in (ap list r.0, r.1)
  doc_carried ps n (object ms) (object ns) h = let r =
      members_carried ps n ms ns h in (ap object r.0, r.1)
  doc_carried ps n (id s x) (id t y) h =
      let b = and_parts (same_sort s t) (has_pair ps (class_after n s) x y) h in
      let e : s ≡ t = same_sort_told s t b.0 in (
        ap (λ r. id r (pos 0)) e,
        (ap (class_after n) e, has_pair_in ps (class_after n s) x y b.1, tt),
      )
  doc_carried ps n d e h = absurd cc

  pub items_carried : (ps : List Pair) (n : ℕ) (ds es : Items) → carries_items ps n ds es ≡ true
      → (items_skeleton ds ≡ items_skeleton es)
      × ids_related (entries ps) n (items_ids ds) (items_ids es)
  items_carried ps n no_items no_items h = (refl, tt)
  items_carried ps n (item d ds) (item e es) h =
      let b = and_parts (carries_doc ps n d e) (carries_items ps n ds es) h in
      let first = doc_carried ps n d e b.0 in
      let rest = items_carried ps n ds es b.1 in (
        rw (first.0, rest.0) refl,
        ids_append (entries ps) n (ids d) (items_ids ds) (ids e) (items_ids es) first.1 rest.1,
      )
  items_carried ps n ds es h = absurd cc

  pub members_carried : (ps : List Pair) (n : ℕ) (ms ns : Members) → carries_members ps n ms ns
      ≡ true
      → (members_skeleton ms ≡ members_skeleton ns)
      × ids_related (entries ps) n (members_ids ms) (members_ids ns)
  members_carried ps n no_members no_members h = (refl, tt)
  members_carried ps n (member k d ms) (member l e ns) h =
      let a = and_parts (bytes_eq k l) (carries_doc ps n d e && carries_members ps n ms ns) h in
      let b = and_parts (carries_doc ps n d e) (carries_members ps n ms ns) a.1 in
      let name : k ≡ l = (bytes_decides k l).0 a.0 in
      let first = doc_carried ps n d e b.0 in
      let rest = members_carried ps n ms ns b.1 in (
        rw (name, first.0, rest.0) refl,
        ids_append (entries ps) n (ids d) (members_ids ms) (ids e) (members_ids ns) first.1 rest.1,
      )
  members_carried ps n ms ns h = absurd cc

pub count_same : (d e : Doc) → skeleton d ≡ skeleton e → length (ids d) ≡ length (ids e)
count_same d e h = count_ids d ∙ (count_alike d e h ∙ sym (count_ids e))

mutual
  pub carried_doc : (ps : List Pair) (n : ℕ) (d e : Doc) → skeleton d ≡ skeleton e
      → ids_related (entries ps) n (ids d) (ids e) → carries_doc ps n d e ≡ true
  carried_doc ps n null null h k = refl
  carried_doc ps n (boolean a) (boolean b) h k = (booleans_Decides a b).1 (cc)
  carried_doc ps n (whole x) (whole y) h k = (Decides-int_eq x y).1 (cc)
  carried_doc ps n (text a) (text b) h k = (bytes_decides a b).1 (cc)
  carried_doc ps n (list ds) (list es) h k = carried_items ps n ds es (cc) k
  carried_doc ps n (object ms) (object ns) h k = carried_members ps n ms ns (cc) k
  carried_doc ps n (id s x) (id t y) h k =
      let e : s ≡ t = cc in
      and_from (same_sort s t) (has_pair ps (class_after n s) x y) (told_same_sort s t e)
      (in_has_pair ps (class_after n s) x y k.1)
  carried_doc ps n d e h k = absurd cc

  pub carried_items : (ps : List Pair) (n : ℕ) (ds es : Items) → items_skeleton ds ≡ items_skeleton
      es
      → ids_related (entries ps) n (items_ids ds) (items_ids es) → carries_items ps n ds es ≡ true
  carried_items ps n no_items no_items h k = refl
  carried_items ps n (item d ds) (item e es) h k =
      let first : skeleton d ≡ skeleton e = cc in
      let rest : items_skeleton ds ≡ items_skeleton es = cc in
      let p = ids_apart (entries ps) n (ids d) (items_ids ds) (ids e) (items_ids es)
      (count_same d e first) k in
      and_from (carries_doc ps n d e) (carries_items ps n ds es) (carried_doc ps n d e first p.0)
      (carried_items ps n ds es rest p.1)
  carried_items ps n ds es h k = absurd cc

  pub carried_members : (ps : List Pair) (n : ℕ) (ms ns : Members)
      → members_skeleton ms ≡ members_skeleton ns
      → ids_related (entries ps) n (members_ids ms) (members_ids ns) → carries_members ps n ms ns
      ≡ true
  carried_members ps n no_members no_members h k = refl
  carried_members ps n (member l d ms) (member m e ns) h k =
      let name : l ≡ m = cc in
      let first : skeleton d ≡ skeleton e = cc in
      let rest : members_skeleton ms ≡ members_skeleton ns = cc in
      let p = ids_apart (entries ps) n (ids d) (members_ids ms) (ids e) (members_ids ns)
      (count_same d e first) k in
      and_from (bytes_eq l m) (carries_doc ps n d e && carries_members ps n ms ns)
      ((bytes_decides l m).1 name)
      (and_from (carries_doc ps n d e) (carries_members ps n ms ns) (carried_doc ps n d e first p.0)
      (carried_members ps n ms ns rest p.1))
  carried_members ps n ms ns h k = absurd cc

-- ---- messages

-- after k stops
pub list_carried : (ps : List Pair) (stop : Sent → ℕ) → IsToldBySkeleton stop → (k : ℕ)
    (ms ns : List Sent) → carries_list ps stop k ms ns ≡ true
    → (map message_skeleton ms ≡ map message_skeleton ns)
    × AreRelated (entries ps) (occurrences stop k ms) (occurrences stop k ns)
list_carried ps stop reported k [] [] h = (refl, tt)
list_carried ps stop reported k (m ∷ ms) (n ∷ ns) h =
    let a = and_parts (carries_sent ps k m n) (carries_list ps stop (k + stop m) ms ns) h in
    let b = and_parts (same_side m.side n.side) (carries_doc ps k m.doc n.doc) a.0 in
    let first = doc_carried ps k m.doc n.doc b.1 in
    let alike : message_skeleton m ≡ message_skeleton n =
    same_sent m.side n.side _ _ ((same_side_decides m.side n.side).0 b.0) first.0 in
    let rest = list_carried ps stop reported (k + stop m) ms ns a.1 in (
      same_cons (message_skeleton m) (message_skeleton n) _ _ alike rest.0,
      related-append (entries ps) (map (occurrence k) (ids m.doc)) (occurrences stop (k + stop m)
          ms)
          (map (occurrence k) (ids n.doc)) (occurrences stop (k + stop n) ns) first.1
          (subst (λ j. AreRelated (entries ps) (occurrences stop (k + stop m) ms)
          (occurrences stop (k + j) ns)) (reported m n alike) rest.1),
    )
list_carried ps stop reported k ms ns h = absurd cc

pub carried_list : (ps : List Pair) (stop : Sent → ℕ) → IsToldBySkeleton stop → (k : ℕ)
    (ms ns : List Sent) → map message_skeleton ms ≡ map message_skeleton ns
    → AreRelated (entries ps) (occurrences stop k ms) (occurrences stop k ns)
    → carries_list ps stop k ms ns ≡ true
carried_list ps stop reported k [] [] e h = refl
carried_list ps stop reported k [] (n ∷ ns) e h = absurd cc
carried_list ps stop reported k (m ∷ ms) [] e h = absurd cc
carried_list ps stop reported k (m ∷ ms) (n ∷ ns) e h =
    let first = head_of e in
    let side : m.side ≡ n.side = ap (λ (w : Sent). w.side) first in
    let doc : skeleton m.doc ≡ skeleton n.doc = ap (λ (w : Sent). w.doc) first in
    let count : length (map (occurrence k) (ids m.doc)) ≡ length (map (occurrence k) (ids n.doc)) =
    length-map (ids m.doc) (occurrence k)
    ∙ (count_same m.doc n.doc doc ∙ sym (length-map (ids n.doc) (occurrence k))) in
    let here = related_front (entries ps) (map (occurrence k) (ids m.doc))
    (occurrences stop (k + stop m) ms) (map (occurrence k) (ids n.doc))
    (occurrences stop (k + stop n) ns) count h in
    let later =
    related_rest (entries ps) (map (occurrence k) (ids m.doc)) (occurrences stop (k + stop m) ms)
    (map (occurrence k) (ids n.doc)) (occurrences stop (k + stop n) ns) count h in
    and_from (carries_sent ps k m n) (carries_list ps stop (k + stop m) ms ns)
    (and_from (same_side m.side n.side) (carries_doc ps k m.doc n.doc)
    ((same_side_decides m.side n.side).1 side) (carried_doc ps k m.doc n.doc doc here))
    (carried_list ps stop reported (k + stop m) ms ns (tail_of e)
    (subst (λ j. AreRelated (entries ps) (occurrences stop (k + stop m) ms)
    (occurrences stop (k + j) ns)) (sym (reported m n first)) later))

-- ---- at the end of one list

pub no_items_left : (ps : List Pair) (n : ℕ) (rest : List Tree)
    → carries_items ps n no_items (items_view rest) ≡ eqb (length rest) 0
no_items_left ps n [] = refl
no_items_left ps n (t ∷ rest) = sym (ne_eqb (suc (length rest)) 0 (λ e. omega (arith, e)))

pub items_at_end : (ps : List Pair) (n : ℕ) (xs rest : List Tree) (k : ℕ) (b : Bool)
    (from to : List Tree) → length xs ≤ k
    → carries_items ps n (items_view (drop k xs)) (items_view rest)
    ≡ carries_items ps n (items_view xs) (items_view to) →
    xs ≡ from → b ≡ eqb (length rest) 0 → b ≡ carries_items ps n (items_view from) (items_view to)
items_at_end ps n xs rest k b from to h same e f =
    f ∙ sym (no_items_left ps n rest)
    ∙ ap (λ ts. carries_items ps n (items_view ts) (items_view rest)) (sym (drop_all k xs h))
    ∙ same ∙ ap (λ ts. carries_items ps n (items_view ts) (items_view to)) e

pub none_left : (ps : List Pair) (stop : Sent → ℕ) (n : ℕ) (rest : List Message)
    → carries_list ps stop n [] (map sent rest) ≡ eqb (length rest) 0
none_left ps stop n [] = refl
none_left ps stop n (m ∷ rest) = sym (ne_eqb (suc (length rest)) 0 (λ e. omega (arith, e)))

pub list_at_end : (ps : List Pair) (stop : Sent → ℕ) (n : ℕ) (xs rest : List Message) (k : ℕ)
    (b : Bool) (to : List Message) → length xs ≤ k
    → carries_list ps stop n (map sent (drop k xs)) (map sent rest)
    ≡ carries_list ps stop 0 (map sent xs) (map sent to) →
    b ≡ eqb (length rest) 0 → b ≡ carries_list ps stop 0 (map sent xs) (map sent to)
list_at_end ps stop n xs rest k b to h same f =
    f ∙ sym (none_left ps stop n rest)
    ∙ ap (λ ts. carries_list ps stop n (map sent ts) (map sent rest)) (sym (drop_all k xs h)) ∙ same
