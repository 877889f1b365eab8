-- The paths to the ids of a document, in the order of paths.
use Rattle.std.proofs.Common.{◌≡◌, ◌≢◌, ◌⊎◌, inl, inr, ℕ, zero, suc, ◌+◌, ◌<◌, ℤ, List, [], ◌∷◌}
use Rattle.std.proofs.Common.{◌++◌, map, length, true, ◌&&◌, Option, Some, None, option_and_then}
use Rattle.std.proofs.Common.{Ordering, Less, Equal, Greater, nat_cmp, is_eq, refl, sym, ap, ap₂}
use Rattle.std.proofs.Common.{◌∙◌, subst, arith}
use Rattle.std.proofs.lemmas.List.{map-append}
use Rattle.std.proofs.lemmas.List.Elements.{All-nil, All-cons}
use Rattle.std.proofs.lemmas.List.Kept.{AllPairs-cons}
use Rattle.std.proofs.lemmas.Map.Text.{is_eq-slice_cmp}
use Rattle.std.proofs.lemmas.Slice.Eq.{bytes_eq-Decides}
use Rattle.std.specs.Cmp.Lexicographic.{slice_cmp}
use Rattle.std.specs.List.{All, AllByRecursion, AllPairs, Contains}
use Rattle.std.specs.Ordering.{match_ordering, is_lt}
use Rattle.std.specs.Prelude.{⊤}
use Rattle.dap_tree.specs.declared.sort.Sort.{Sort}
use Rattle.dap_tree.specs.Doc.{Doc, null, boolean, whole, text, list, object, id, Items, no_items}
use Rattle.dap_tree.specs.Doc.{item, Members, no_members, member, get_member, is_below_all}
use Rattle.dap_tree.specs.Doc.{is_ordered, items_ordered, members_ordered}
use Rattle.dap_tree.specs.Ids.{ids, items_ids, members_ids}
use Rattle.dap_tree.specs.Path.{Step, name, place, step, get_item, at, StepPrecedes, IsBefore}
use Rattle.dap_tree.specs.Path.{AreIdPaths}
use Rattle.dap_tree.proofs.Booleans.{and_left, and_right}
use Rattle.dap_tree.proofs.Comparisons.{less}
use Rattle.dap_tree.proofs.Paths.{skips}

abbrev Path : Type 0
Path = List Step

abbrev mutual
  id_paths : Doc → List Path
  id_paths null = []
  id_paths (boolean b) = []
  id_paths (whole z) = []
  id_paths (text s) = []
  id_paths (list ds) = items_paths 0 ds
  id_paths (object ms) = members_paths ms
  id_paths (id s z) = [] ∷ []

  -- the items start at index n
  items_paths : ℕ → Items → List Path
  items_paths n no_items = []
  items_paths n (item d ds) = map (λ p. place n ∷ p) (id_paths d) ++ items_paths (suc n) ds

  members_paths : Members → List Path
  members_paths no_members = []
  members_paths (member k d ms) = map (λ p. name k ∷ p) (id_paths d) ++ members_paths ms

-- ---- members by name

hit : (o : Ordering) (a b : Option Doc) → is_eq o ≡ true → match_ordering o a b a ≡ b
hit Less a b e = cc
hit Equal a b e = refl
hit Greater a b e = cc

found_first : (k : List ℕ) (d : Doc) (ms : Members) → get_member k (member k d ms) ≡ Some d
found_first k d ms =
    hit (slice_cmp nat_cmp k k) (get_member k ms) (Some d) (is_eq-slice_cmp k k
    ∙ (bytes_eq-Decides k k).1 refl)

below_first : (k l : List ℕ) (e : Doc) (ms : Members) → is_below_all k (member l e ms) ≡ true
    → slice_cmp nat_cmp k l ≡ Less
below_first k l e ms h =
    less (slice_cmp nat_cmp k l) (and_left (is_lt (slice_cmp nat_cmp k l)) (is_below_all k ms) h)

-- no member has a name that is below all names of the members
missing : (k : List ℕ) (ms : Members) → is_below_all k ms ≡ true → get_member k ms ≡ None
missing k no_members h = refl
missing k (member l e ms) h =
    rw (below_first k l e ms h)
    (missing k ms (and_right (is_lt (slice_cmp nat_cmp k l)) (is_below_all k ms) h))

found_later : (k q : List ℕ) (d e : Doc) (ms : Members) → is_below_all k ms ≡ true
    → get_member q ms ≡ Some e → get_member q (member k d ms) ≡ Some e
found_later k q d e ms below found =
    let apart : q ≢ k = λ same. let none = missing k ms below in let some =
    ap (λ l. get_member l ms) (sym same) ∙ found in absurd cc in
    skips q k d ms apart ∙ found

-- ---- the i-th path leads to the i-th id

abbrev id_docs : List (Sort × ℤ) → List (Option Doc)
id_docs is = map (λ i. Some (id i.0 i.1)) is

below_step : (s : Step) (d e : Doc) → step s d ≡ Some e → (ps : List Path)
    → map (λ p. at p d) (map (λ p. s ∷ p) ps) ≡ map (λ p. at p e) ps
below_step s d e is [] = refl
below_step s d e is (p ∷ ps) =
    ap₂ (λ o os. o ∷ os) (ap (option_and_then (at p)) is) (below_step s d e is ps)

joined : (d : Doc) (ps qs : List Path) (is js : List (Sort × ℤ)) → map (λ p. at p d) ps ≡ id_docs is
    → map (λ p. at p d) qs ≡ id_docs js → map (λ p. at p d) (ps ++ qs) ≡ id_docs (is ++ js)
joined d ps qs is js h k =
    map-append (λ p. at p d) ps qs ∙ ap₂ (λ a b. a ++ b) h k
    ∙ sym (map-append (λ i. Some (id i.0 i.1)) is js)

mutual
  reached : (d : Doc) → is_ordered d ≡ true → map (λ p. at p d) (id_paths d) ≡ id_docs (ids d)
  reached null h = refl
  reached (boolean b) h = refl
  reached (whole z) h = refl
  reached (text s) h = refl
  reached (list ds) h =
      items_reached ds 0 ds h (λ k. let same : 0 + k
      ≡ k = omega arith in ap (λ n. get_item n ds) same)
  reached (object ms) h = members_reached ms ms h (λ q e found. found)
  reached (id s z) h = refl

  items_reached : (all : Items) (n : ℕ) (ds : Items) → items_ordered ds ≡ true
      → ((k : ℕ) → get_item (n + k) all ≡ get_item k ds)
      → map (λ p. at p (list all)) (items_paths n ds) ≡ id_docs (items_ids ds)
  items_reached all n no_items h g = refl
  items_reached all n (item d ds) h g =
      let same : n ≡ n + 0 = omega arith in
      let first =
      below_step (place n) (list all) d (ap (λ m. get_item m all) same ∙ g 0) (id_paths d)
      ∙ reached d (and_left (is_ordered d) (items_ordered ds) h) in
      let more : (k : ℕ)
      → get_item (suc n + k) all ≡ get_item k ds = λ k. let next : suc n + k ≡ n + suc k =
      omega arith in ap (λ m. get_item m all) next ∙ g (suc k) in
      joined (list all) (map (λ p. place n ∷ p) (id_paths d)) (items_paths (suc n) ds) (ids d)
      (items_ids ds) first
      (items_reached all (suc n) ds (and_right (is_ordered d) (items_ordered ds) h) more)

  members_reached : (all ms : Members) → members_ordered ms ≡ true
      → ((q : List ℕ) (e : Doc) → get_member q ms ≡ Some e → get_member q all ≡ Some e)
      → map (λ p. at p (object all)) (members_paths ms) ≡ id_docs (members_ids ms)
  members_reached all no_members h g = refl
  members_reached all (member k d ms) h g =
      let below = and_left (is_below_all k ms) (is_ordered d && members_ordered ms) h in
      let parts = and_right (is_below_all k ms) (is_ordered d && members_ordered ms) h in
      let first =
      below_step (name k) (object all) d (g k d (found_first k d ms)) (id_paths d)
      ∙ reached d (and_left (is_ordered d) (members_ordered ms) parts) in
      joined (object all) (map (λ p. name k ∷ p) (id_paths d)) (members_paths ms) (ids d)
      (members_ids ms) first
      (members_reached all ms (and_right (is_ordered d) (members_ordered ms) parts)
      (λ q e found. g q e (found_later k q d e ms below found)))

-- ---- each path precedes the later ones

abbrev AreOrdered : List Path → Type 0
AreOrdered [] = ⊤
AreOrdered (p ∷ ps) = AllByRecursion (IsBefore p) ps × AreOrdered ps

abbrev BeginsAfter : Step → Path → Type 0
BeginsAfter s [] = ⊥
BeginsAfter s (t ∷ p) = StepPrecedes s t

each-append : (P : Path → Type 0) (ps qs : List Path) → AllByRecursion P ps → AllByRecursion P qs
    → AllByRecursion P (ps ++ qs)
each-append P [] qs h k = k
each-append P (p ∷ ps) qs h k = (h.0, each-append P ps qs h.1 k)

after_step : (s t : Step) → StepPrecedes s t → (ps : List Path)
    → AllByRecursion (BeginsAfter s) (map (λ p. t ∷ p) ps)
after_step s t h [] = tt
after_step s t h (p ∷ ps) = (h, after_step s t h ps)

before_each : (s : Step) (p : Path) (qs : List Path) → AllByRecursion (BeginsAfter s) qs
    → AllByRecursion (IsBefore (s ∷ p)) qs
before_each s p [] h = tt
before_each s p ([] ∷ qs) h = absurd h.0
before_each s p ((t ∷ q) ∷ qs) h = (inl h.0, before_each s p qs h.1)

same_step : (s : Step) (p : Path) (qs : List Path) → AllByRecursion (IsBefore p) qs
    → AllByRecursion (IsBefore (s ∷ p)) (map (λ q. s ∷ q) qs)
same_step s p [] h = tt
same_step s p (q ∷ qs) h = (inr (refl, h.0), same_step s p qs h.1)

step_ordered : (s : Step) (ps qs : List Path) → AreOrdered ps → AreOrdered qs
    → AllByRecursion (BeginsAfter s) qs → AreOrdered (map (λ p. s ∷ p) ps ++ qs)
step_ordered s [] qs h k after = k
step_ordered s (p ∷ ps) qs h k after = (
  each-append _ (map (λ q. s ∷ q) ps) qs (same_step s p ps h.0) (before_each s p qs after),
  step_ordered s ps qs h.1 k after,
)

items_after : (m n : ℕ) (ds : Items) → m < n
    → AllByRecursion (BeginsAfter (place m)) (items_paths n ds)
items_after m n no_items h = tt
items_after m n (item d ds) h =
    each-append _ _ (items_paths (suc n) ds) (after_step (place m) (place n) h (id_paths d))
    (items_after m (suc n) ds (omega (arith, h)))

members_after : (k : List ℕ) (ms : Members) → is_below_all k ms ≡ true
    → AllByRecursion (BeginsAfter (name k)) (members_paths ms)
members_after k no_members h = tt
members_after k (member l e ms) h =
    each-append _ _ (members_paths ms)
    (after_step (name k) (name l)
    (and_left (is_lt (slice_cmp nat_cmp k l)) (is_below_all k ms) h) (id_paths e))
    (members_after k ms (and_right (is_lt (slice_cmp nat_cmp k l)) (is_below_all k ms) h))

mutual
  ordered : (d : Doc) → is_ordered d ≡ true → AreOrdered (id_paths d)
  ordered null h = tt
  ordered (boolean b) h = tt
  ordered (whole z) h = tt
  ordered (text s) h = tt
  ordered (list ds) h = items_paths_ordered 0 ds h
  ordered (object ms) h = members_paths_ordered ms h
  ordered (id s z) h = (tt, tt)

  items_paths_ordered : (n : ℕ) (ds : Items) → items_ordered ds ≡ true
      → AreOrdered (items_paths n ds)
  items_paths_ordered n no_items h = tt
  items_paths_ordered n (item d ds) h =
      step_ordered (place n) (id_paths d) (items_paths (suc n) ds)
      (ordered d (and_left (is_ordered d) (items_ordered ds) h))
      (items_paths_ordered (suc n) ds (and_right (is_ordered d) (items_ordered ds) h))
      (items_after n (suc n) ds (omega arith))

  members_paths_ordered : (ms : Members) → members_ordered ms ≡ true → AreOrdered (members_paths ms)
  members_paths_ordered no_members h = tt
  members_paths_ordered (member k d ms) h =
      let below = and_left (is_below_all k ms) (is_ordered d && members_ordered ms) h in
      let parts = and_right (is_below_all k ms) (is_ordered d && members_ordered ms) h in
      step_ordered (name k) (id_paths d) (members_paths ms)
      (ordered d (and_left (is_ordered d) (members_ordered ms) parts))
      (members_paths_ordered ms (and_right (is_ordered d) (members_ordered ms) parts))
      (members_after k ms below)

each_from : (P : Path → Type 0) (ps : List Path) → AllByRecursion P ps → All P ps
each_from P [] h = All-nil P
each_from P (p ∷ ps) h = All-cons P p ps h.0 (each_from P ps h.1)

no_pairs : AllPairs IsBefore []
no_pairs i j d less within = absurd (omega (arith, within))

pairs_from : (ps : List Path) → AreOrdered ps → AllPairs IsBefore ps
pairs_from [] h = no_pairs
pairs_from (p ∷ ps) h =
    AllPairs-cons IsBefore p ps (each_from (IsBefore p) ps h.0) (pairs_from ps h.1)

-- ---- no other path leads to an id

abbrev IsIn : Path → List Path → Type 0
IsIn p [] = ⊥
IsIn p (q ∷ qs) = (q ≡ p) ⊎ IsIn p qs

in_left : (p : Path) (ps qs : List Path) → IsIn p ps → IsIn p (ps ++ qs)
in_left p [] qs h = absurd h
in_left p (x ∷ ps) qs h = elim h [ inl e ↦ inl e | inr later ↦ inr (in_left p ps qs later) ]

in_right : (p : Path) (ps qs : List Path) → IsIn p qs → IsIn p (ps ++ qs)
in_right p [] qs h = h
in_right p (x ∷ ps) qs h = inr (in_right p ps qs h)

in_step : (s : Step) (p : Path) (ps : List Path) → IsIn p ps → IsIn (s ∷ p) (map (λ q. s ∷ q) ps)
in_step s p [] h = absurd h
in_step s p (x ∷ ps) h =
    elim h [ inl e ↦ inl (ap (λ q. s ∷ q) e) | inr later ↦ inr (in_step s p ps later) ]

contains_from : (p : Path) (ps : List Path) → IsIn p ps → Contains ps p
contains_from p [] h = absurd h
contains_from p (x ∷ ps) h = elim h [
  | inl e ↦ (0, omega arith, e)
  | inr later ↦ let c = contains_from p ps later in let within : suc c.0 < suc (length ps) =
      omega (arith, c.1) in (suc c.0, within, c.2)
]

same_some : (d e : Doc) → Some d ≡ Some e → d ≡ e
same_some d e h = cc

member_here : (o : Ordering) (k l : List ℕ) (p : Path) (d : Doc) (ms : Members) (found : Option Doc)
    → slice_cmp nat_cmp k l ≡ o
    → (at p d ≡ found → IsIn p (id_paths d))
    → (option_and_then (at p) (get_member k ms) ≡ found → IsIn (name k ∷ p) (members_paths ms))
    → option_and_then (at p) (match_ordering o (get_member k ms) (Some d) (get_member k ms)) ≡ found
    → IsIn (name k ∷ p) (members_paths (member l d ms))
member_here Less k l p d ms found is here later e =
    in_right _ (map (λ q. name l ∷ q) (id_paths d)) (members_paths ms) (later e)
member_here Equal k l p d ms found is here later e =
    let same : k ≡ l = (bytes_eq-Decides k l).0 (sym (is_eq-slice_cmp k l) ∙ ap is_eq is) in
    in_left _ (map (λ q. name l ∷ q) (id_paths d)) (members_paths ms)
    (subst (λ m. IsIn (name m ∷ p) (map (λ q. name l ∷ q) (id_paths d))) (sym same)
    (in_step (name l) p (id_paths d) (here e)))
member_here Greater k l p d ms found is here later e =
    in_right _ (map (λ q. name l ∷ q) (id_paths d)) (members_paths ms) (later e)

mutual
  every : (d : Doc) (p : Path) (s : Sort) (z : ℤ) → at p d ≡ Some (id s z) → IsIn p (id_paths d)
  every d [] s z e = subst (λ f. IsIn [] (id_paths f)) (sym (same_some d (id s z) e)) (inl refl)
  every null (name k ∷ p) s z e = absurd cc
  every null (place n ∷ p) s z e = absurd cc
  every (boolean b) (name k ∷ p) s z e = absurd cc
  every (boolean b) (place n ∷ p) s z e = absurd cc
  every (whole i) (name k ∷ p) s z e = absurd cc
  every (whole i) (place n ∷ p) s z e = absurd cc
  every (text t) (name k ∷ p) s z e = absurd cc
  every (text t) (place n ∷ p) s z e = absurd cc
  every (list ds) (name k ∷ p) s z e = absurd cc
  every (list ds) (place n ∷ p) s z e = let same : 0 + n ≡ n =
      omega arith in subst (λ m. IsIn (place m ∷ p) (items_paths 0 ds)) same
      (items_every 0 n ds p s z e)
  every (object ms) (name k ∷ p) s z e = members_every ms k p s z e
  every (object ms) (place n ∷ p) s z e = absurd cc
  every (id t i) (name k ∷ p) s z e = absurd cc
  every (id t i) (place n ∷ p) s z e = absurd cc

  items_every : (m n : ℕ) (ds : Items) (p : Path) (s : Sort) (z : ℤ)
      → option_and_then (at p) (get_item n ds) ≡ Some (id s z)
      → IsIn (place (m + n) ∷ p) (items_paths m ds)
  items_every m n no_items p s z e = absurd cc
  items_every m zero (item d ds) p s z e =
      let same : m ≡ m + 0 = omega arith in
      in_left _ (map (λ q. place m ∷ q) (id_paths d)) (items_paths (suc m) ds)
      (subst (λ n. IsIn (place n ∷ p) (map (λ q. place m ∷ q) (id_paths d))) same
      (in_step (place m) p (id_paths d) (every d p s z e)))
  items_every m (suc n) (item d ds) p s z e =
      let same : suc m + n ≡ m + suc n = omega arith in
      in_right _ (map (λ q. place m ∷ q) (id_paths d)) (items_paths (suc m) ds)
      (subst (λ i. IsIn (place i ∷ p) (items_paths (suc m) ds)) same
      (items_every (suc m) n ds p s z e))

  members_every : (ms : Members) (k : List ℕ) (p : Path) (s : Sort) (z : ℤ)
      → option_and_then (at p) (get_member k ms) ≡ Some (id s z)
      → IsIn (name k ∷ p) (members_paths ms)
  members_every no_members k p s z e = absurd cc
  members_every (member l d ms) k p s z e =
      member_here (slice_cmp nat_cmp k l) k l p d ms (Some (id s z)) refl
      (λ here. every d p s z here) (λ later. members_every ms k p s z later) e

pub ids_by_path : (d : Doc) → is_ordered d ≡ true → (paths : List (List Step)) × AreIdPaths d paths
ids_by_path d h = (
  id_paths d,
  record {
    reached = reached d h;
    ordered = pairs_from (id_paths d) (ordered d h);
    every = λ p s z e. contains_from p (id_paths d) (every d p s z e);
  },
)
