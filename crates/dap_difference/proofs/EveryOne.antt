-- Each path at which two documents differ is in the list, and if the list is empty they are equal.
use Rattle.std.proofs.Common.{◌≡◌, ◌⊎◌, inl, inr, ℕ, zero, suc, ◌+◌, ◌<◌, List, [], ◌∷◌, ◌++◌}
use Rattle.std.proofs.Common.{map, length, Bool, true, false, ◌&&◌, cond, Some, None}
use Rattle.std.proofs.Common.{nat_cmp, refl, sym}
use Rattle.std.proofs.Common.{ap, ap₂, subst, arith}
use Rattle.std.specs.Cmp.Lexicographic.{slice_cmp}
use Rattle.std.specs.List.{Contains}
use Rattle.dap_tree.specs.Doc.{Doc, list, object, Items, no_items}
use Rattle.dap_tree.specs.Doc.{item, Members, no_members, member, get_member, is_below_all}
use Rattle.dap_tree.specs.Doc.{is_ordered, items_ordered, members_ordered}
use Rattle.dap_tree.specs.Path.{Step, name, place, get_item}
use Rattle.dap_tree.proofs.Booleans.{and_left, and_right}
use Rattle.dap_tree.proofs.Paths.{skips}
use Rattle.dap_difference.specs.Differences.{have_parts, DifferAt, Difference}
use Rattle.dap_difference.specs.Telling.{same_scalar, only_a, only_b, both, behind, items_of_b}
use Rattle.dap_difference.specs.Telling.{members_of_b, from_member, differences, items_differences}
use Rattle.dap_difference.specs.Telling.{members_differences}
use Rattle.dap_difference.proofs.Members.{found_first, missing, below_first, turned, one_name}
use Rattle.dap_difference.proofs.Members.{same_or_apart}
use Rattle.dap_difference.proofs.Scalars.{same_is}
use Rattle.dap_difference.proofs.Paths.{none_differ, ends_of_a, ends_of_b}
use Rattle.dap_difference.proofs.Told.{by_order}

-- ---- paths of the list

abbrev pub IsTold : List Step → List Difference → Type 0
IsTold p [] = ⊥
IsTold p (x ∷ xs) = (x.path ≡ p) ⊎ IsTold p xs

told_left : (p : List Step) (xs ys : List Difference) → IsTold p xs → IsTold p (xs ++ ys)
told_left p [] ys h = absurd h
told_left p (x ∷ xs) ys h = elim h [ inl e ↦ inl e | inr later ↦ inr (told_left p xs ys later) ]

told_right : (p : List Step) (xs ys : List Difference) → IsTold p ys → IsTold p (xs ++ ys)
told_right p [] ys h = h
told_right p (x ∷ xs) ys h = inr (told_right p xs ys h)

told_behind : (s : Step) (p : List Step) (xs : List Difference) → IsTold p xs
    → IsTold (s ∷ p) (map (behind s) xs)
told_behind s p [] h = absurd h
told_behind s p (x ∷ xs) h =
    elim h [ inl e ↦ inl (ap (λ q. s ∷ q) e) | inr later ↦ inr (told_behind s p xs later) ]

pub contains_from : (p : List Step) (xs : List Difference) → IsTold p xs
    → Contains (map (λ x. x.path) xs) p
contains_from p [] h = absurd h
contains_from p (x ∷ xs) h = elim h [
  | inl e ↦ (0, omega arith, e)
  | inr later ↦ let c = contains_from p xs later in
      let within : suc c.0 < suc (length (map (λ y. y.path) xs)) = omega (arith, c.1) in
      (suc c.0, within, c.2)
]

-- ---- without parts

both_at : (b : Bool) (p : List Step) (d e : Doc) → same_scalar d e ≡ b
    → have_parts (Some d) (Some e) ≡ false → DifferAt p (Some d) (Some e)
    → IsTold p (cond b [] (record { path = []; of_a = Some d; of_b = Some e } ∷ []))
both_at true [] d e same parts h = absurd (h.0 (ap Some (same_is d e same)))
both_at false [] d e same parts h = inl refl
both_at true (s ∷ p) d e same parts h = let parted = h.0 in absurd cc
both_at false (s ∷ p) d e same parts h = let parted = h.0 in absurd cc

both_every : (p : List Step) (d e : Doc) → have_parts (Some d) (Some e) ≡ false
    → DifferAt p (Some d) (Some e) → IsTold p (both d e)
both_every p d e parts h = both_at (same_scalar d e) p d e refl parts h

-- ---- items

items_of_b_every : (n i : ℕ) (es : Items) (p : List Step) → DifferAt p None (get_item i es)
    → IsTold (place (n + i) ∷ p) (items_of_b n es)
items_of_b_every n i no_items p h = absurd (none_differ p h)
items_of_b_every n zero (item e es) p h =
    let here : n ≡ n + 0 = omega arith in
    inl (ap₂ (λ m q. place m ∷ q) here (sym (ends_of_a p e h)))
items_of_b_every n (suc i) (item e es) p h =
    let here : suc n + i ≡ n + suc i = omega arith in
    inr (subst (λ m. IsTold (place m ∷ p) (items_of_b (suc n) es)) here
    (items_of_b_every (suc n) i es p h))

-- ---- members

only_a_every : (k q : List ℕ) (d : Doc) (ms ns : Members) (p : List Step)
    (reported : List Difference)
    → get_member k ns ≡ None
    → (DifferAt p (get_member q ms) (get_member q ns) → IsTold (name q ∷ p) reported)
    → DifferAt p (get_member q (member k d ms)) (get_member q ns)
    → IsTold (name q ∷ p) (only_a (name k) d ∷ reported)
only_a_every k q d ms ns p reported none later h = elim (same_or_apart q k) [
  | inl same ↦ let there : DifferAt p (Some d) None =
      subst (λ o. DifferAt p o None) (found_first k d ms)
      (subst (DifferAt p (get_member k (member k d ms))) none
      (subst (λ l. DifferAt p (get_member l (member k d ms)) (get_member l ns)) same h)) in
      inl (ap₂ (λ l r. name l ∷ r) (sym same) (sym (ends_of_b p d there)))
  | inr apart ↦ inr (later (subst (λ o. DifferAt p o (get_member q ns)) (skips q k d ms apart) h))
]

only_b_every : (l q : List ℕ) (e : Doc) (ms ns : Members) (p : List Step)
    (reported : List Difference)
    → get_member l ms ≡ None
    → (DifferAt p (get_member q ms) (get_member q ns) → IsTold (name q ∷ p) reported)
    → DifferAt p (get_member q ms) (get_member q (member l e ns))
    → IsTold (name q ∷ p) (only_b (name l) e ∷ reported)
only_b_every l q e ms ns p reported none later h = elim (same_or_apart q l) [
  | inl same ↦ let there : DifferAt p None (Some e) =
      subst (λ o. DifferAt p None o) (found_first l e ns)
      (subst (λ o. DifferAt p o (get_member l (member l e ns))) none
      (subst (λ k. DifferAt p (get_member k ms) (get_member k (member l e ns))) same h)) in
      inl (ap₂ (λ k r. name k ∷ r) (sym same) (sym (ends_of_a p e there)))
  | inr apart ↦ inr (later (subst (DifferAt p (get_member q ms)) (skips q l e ns apart) h))
]

both_have_every : (k q : List ℕ) (d e : Doc) (ms ns : Members) (p : List Step)
    (here reported : List Difference)
    → (DifferAt p (Some d) (Some e) → IsTold p here)
    → (DifferAt p (get_member q ms) (get_member q ns) → IsTold (name q ∷ p) reported)
    → DifferAt p (get_member q (member k d ms)) (get_member q (member k e ns))
    → IsTold (name q ∷ p) (map (behind (name k)) here ++ reported)
both_have_every k q d e ms ns p here reported first later h = elim (same_or_apart q k) [
  | inl same ↦ let there : DifferAt p (Some d) (Some e) =
      subst (λ o. DifferAt p o (Some e)) (found_first k d ms)
      (subst (DifferAt p (get_member k (member k d ms))) (found_first k e ns)
      (subst (λ l. DifferAt p (get_member l (member k d ms)) (get_member l (member k e ns))) same
      h)) in
      subst (λ l. IsTold (name l ∷ p) (map (behind (name k)) here ++ reported)) (sym same)
      (told_left (name k ∷ p) (map (behind (name k)) here) reported
      (told_behind (name k) p here (first there)))
  | inr apart ↦ told_right (name q ∷ p) (map (behind (name k)) here) reported
      (later (subst (λ o. DifferAt p o (get_member q ns)) (skips q k d ms apart)
      (subst (DifferAt p (get_member q (member k d ms))) (skips q k e ns apart) h)))
]

members_of_b_every : (q : List ℕ) (ns : Members) (p : List Step)
    → DifferAt p None (get_member q ns) → IsTold (name q ∷ p) (members_of_b ns)
members_of_b_every q no_members p h = absurd (none_differ p h)
members_of_b_every q (member l e ns) p h =
    only_b_every l q e no_members ns p (members_of_b ns) refl
    (λ later. members_of_b_every q ns p later) h

from_every : (k q : List ℕ) (d : Doc) (ms : Members) (p : List Step)
    (differ : Doc → List Difference) (rest : Members → List Difference) → is_below_all k ms ≡ true
    → ((e : Doc) → is_ordered e ≡ true → DifferAt p (Some d) (Some e) → IsTold p (differ e))
    → ((ns : Members) → members_ordered ns ≡ true
    → DifferAt p (get_member q ms) (get_member q ns) → IsTold (name q ∷ p) (rest ns))
    → (ns : Members) → members_ordered ns ≡ true
    → DifferAt p (get_member q (member k d ms)) (get_member q ns)
    → IsTold (name q ∷ p) (from_member k d differ rest ns)
from_every k q d ms p differ rest low f g no_members hn h =
    only_a_every k q d ms no_members p (rest no_members) refl (g no_members hn) h
from_every k q d ms p differ rest low f g (member l e ns) hn h =
    let below = and_left (is_below_all l ns) (is_ordered e && members_ordered ns) hn in
    let parts = and_right (is_below_all l ns) (is_ordered e && members_ordered ns) hn in
    let e_ordered = and_left (is_ordered e) (members_ordered ns) parts in
    let ns_ordered = and_right (is_ordered e) (members_ordered ns) parts in
    by_order (IsTold (name q ∷ p)) (slice_cmp nat_cmp k l)
    (only_a (name k) d ∷ rest (member l e ns))
    (map (behind (name k)) (differ e) ++ rest ns)
    (only_b (name l) e ∷ from_member k d differ rest ns)
    (λ less. only_a_every k q d ms (member l e ns) p (rest (member l e ns))
    (missing k (member l e ns) (below_first k l e ns less below)) (g (member l e ns) hn) h)
    (λ equal. both_have_every k q d e ms ns p (differ e) (rest ns) (f e e_ordered)
    (g ns ns_ordered)
    (subst (λ r. DifferAt p (get_member q (member k d ms)) (get_member q (member r e ns)))
    (sym (one_name k l equal)) h))
    (λ greater. only_b_every l q e (member k d ms) ns p (from_member k d differ rest ns)
    (missing l (member k d ms) (below_first l k d ms (turned k l greater) low))
    (λ later. from_every k q d ms p differ rest low f g ns ns_ordered later) h)

in_list : (ds es : Items) (p : List Step)
    → ((i : ℕ) (r : List Step) → DifferAt r (get_item i ds) (get_item i es)
    → IsTold (place (0 + i) ∷ r) (items_differences 0 ds es))
    → DifferAt p (Some (list ds)) (Some (list es)) → IsTold p (items_differences 0 ds es)
in_list ds es [] each h = let closed = h.1 in absurd cc
in_list ds es (name k ∷ p) each h = absurd (none_differ p h.1)
in_list ds es (place i ∷ p) each h =
    let here : 0 + i ≡ i = omega arith in
    subst (λ m. IsTold (place m ∷ p) (items_differences 0 ds es)) here (each i p h.1)

in_object : (ms ns : Members) (p : List Step)
    → ((q : List ℕ) (r : List Step) → DifferAt r (get_member q ms) (get_member q ns)
    → IsTold (name q ∷ r) (members_differences ms ns))
    → DifferAt p (Some (object ms)) (Some (object ns)) → IsTold p (members_differences ms ns)
in_object ms ns [] each h = let closed = h.1 in absurd cc
in_object ms ns (name k ∷ p) each h = each k p h.1
in_object ms ns (place i ∷ p) each h = absurd (none_differ p h.1)

mutual
  pub every : (d e : Doc) → is_ordered d ≡ true → is_ordered e ≡ true → (p : List Step)
      → DifferAt p (Some d) (Some e) → IsTold p (differences d e)
  every (list ds) (list es) h k p there =
      in_list ds es p (λ i r x. items_every 0 i ds es r h k x) there
  every (object ms) (object ns) h k p there =
      in_object ms ns p (λ q r x. members_every q ms ns r h k x) there
  every d e h k p there = both_every p d e refl there

  items_every : (n i : ℕ) (ds es : Items) (p : List Step) → items_ordered ds ≡ true
      → items_ordered es ≡ true → DifferAt p (get_item i ds) (get_item i es)
      → IsTold (place (n + i) ∷ p) (items_differences n ds es)
  items_every n i no_items es p h k there = items_of_b_every n i es p there
  items_every n zero (item d ds) no_items p h k there =
      let here : n ≡ n + 0 = omega arith in
      inl (ap₂ (λ m r. place m ∷ r) here (sym (ends_of_b p d there)))
  items_every n (suc i) (item d ds) no_items p h k there =
      let here : suc n + i ≡ n + suc i = omega arith in
      inr (subst (λ m. IsTold (place m ∷ p) (items_differences (suc n) ds no_items)) here
      (items_every (suc n) i ds no_items p (and_right (is_ordered d) (items_ordered ds) h) k there))
  items_every n zero (item d ds) (item e es) p h k there =
      let here : n ≡ n + 0 = omega arith in
      told_left (place (n + 0) ∷ p) (map (behind (place n)) (differences d e))
      (items_differences (suc n) ds es)
      (subst (λ m. IsTold (place m ∷ p) (map (behind (place n)) (differences d e))) here
      (told_behind (place n) p (differences d e)
      (every d e (and_left (is_ordered d) (items_ordered ds) h)
      (and_left (is_ordered e) (items_ordered es) k) p there)))
  items_every n (suc i) (item d ds) (item e es) p h k there =
      let here : suc n + i ≡ n + suc i = omega arith in
      told_right (place (n + suc i) ∷ p) (map (behind (place n)) (differences d e))
      (items_differences (suc n) ds es)
      (subst (λ m. IsTold (place m ∷ p) (items_differences (suc n) ds es)) here
      (items_every (suc n) i ds es p (and_right (is_ordered d) (items_ordered ds) h)
      (and_right (is_ordered e) (items_ordered es) k) there))

  members_every : (q : List ℕ) (ms ns : Members) (p : List Step) → members_ordered ms ≡ true
      → members_ordered ns ≡ true → DifferAt p (get_member q ms) (get_member q ns)
      → IsTold (name q ∷ p) (members_differences ms ns)
  members_every q no_members ns p h k there = members_of_b_every q ns p there
  members_every q (member l d ms) ns p h hn there =
      let below = and_left (is_below_all l ms) (is_ordered d && members_ordered ms) h in
      let parts = and_right (is_below_all l ms) (is_ordered d && members_ordered ms) h in
      let d_ordered = and_left (is_ordered d) (members_ordered ms) parts in
      let ms_ordered = and_right (is_ordered d) (members_ordered ms) parts in
      from_every l q d ms p (λ e. differences d e) (λ es. members_differences ms es) below
      (λ e he x. every d e d_ordered he p x)
      (λ es hes x. members_every q ms es p ms_ordered hes x) ns hn there

-- ---- if the list is empty

none_left : (xs ys : List Difference) → xs ++ ys ≡ [] → xs ≡ []
none_left [] ys h = refl
none_left (x ∷ xs) ys h = absurd cc

none_right : (xs ys : List Difference) → xs ++ ys ≡ [] → ys ≡ []
none_right [] ys h = h
none_right (x ∷ xs) ys h = absurd cc

none_behind : (s : Step) (xs : List Difference) → map (behind s) xs ≡ [] → xs ≡ []
none_behind s [] h = refl
none_behind s (x ∷ xs) h = absurd cc

none_both : (b : Bool) (d e : Doc) → same_scalar d e ≡ b
    → cond b [] (let x : Difference = record { path = []; of_a = Some d; of_b = Some e } in x ∷ [])
    ≡ [] → d ≡ e
none_both true d e same h = same_is d e same
none_both false d e same h = absurd cc

none_of_items : (n : ℕ) (es : Items) → items_of_b n es ≡ [] → no_items ≡ es
none_of_items n no_items h = refl
none_of_items n (item e es) h = absurd cc

none_of_members : (ns : Members) → members_of_b ns ≡ [] → no_members ≡ ns
none_of_members no_members h = refl
none_of_members (member l e ns) h = absurd cc

none_from : (k : List ℕ) (d : Doc) (ms : Members) (differ : Doc → List Difference)
    (rest : Members → List Difference) → ((e : Doc) → differ e ≡ [] → d ≡ e)
    → ((ns : Members) → rest ns ≡ [] → ms ≡ ns) → (ns : Members)
    → from_member k d differ rest ns ≡ [] → member k d ms ≡ ns
none_from k d ms differ rest f g no_members h = absurd cc
none_from k d ms differ rest f g (member l e ns) h =
    by_order (λ xs. xs ≡ [] → member k d ms ≡ member l e ns) (slice_cmp nat_cmp k l)
    (only_a (name k) d ∷ rest (member l e ns))
    (map (behind (name k)) (differ e) ++ rest ns)
    (only_b (name l) e ∷ from_member k d differ rest ns)
    (λ less x. absurd cc)
    (λ equal x. let same_d =
    f e (none_behind (name k) (differ e) (none_left (map (behind (name k)) (differ e)) (rest ns) x))
    in let same_ms = g ns (none_right (map (behind (name k)) (differ e)) (rest ns) x) in
    let same_k = one_name k l equal in cc)
    (λ greater x. absurd cc) h

mutual
  pub none_differs : (d e : Doc) → differences d e ≡ [] → d ≡ e
  none_differs (list ds) (list es) h = ap list (no_items_differ 0 ds es h)
  none_differs (object ms) (object ns) h = ap object (no_members_differ ms ns h)
  none_differs d e h = none_both (same_scalar d e) d e refl h

  no_items_differ : (n : ℕ) (ds es : Items) → items_differences n ds es ≡ [] → ds ≡ es
  no_items_differ n no_items es h = none_of_items n es h
  no_items_differ n (item d ds) no_items h = absurd cc
  no_items_differ n (item d ds) (item e es) h =
      let here = none_behind (place n) (differences d e)
      (none_left (map (behind (place n)) (differences d e)) (items_differences (suc n) ds es) h) in
      let later = none_right (map (behind (place n)) (differences d e))
      (items_differences (suc n) ds es) h in
      ap₂ item (none_differs d e here) (no_items_differ (suc n) ds es later)

  no_members_differ : (ms ns : Members) → members_differences ms ns ≡ [] → ms ≡ ns
  no_members_differ no_members ns h = none_of_members ns h
  no_members_differ (member k d ms) ns h =
      none_from k d ms (λ e. differences d e) (λ es. members_differences ms es)
      (λ e x. none_differs d e x) (λ es x. no_members_differ ms es x) ns h
