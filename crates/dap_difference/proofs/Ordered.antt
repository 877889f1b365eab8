-- The differences are in the order of their paths.
use Rattle.std.proofs.Common.{◌≡◌, inl, inr, ℕ, suc, ◌<◌, List, [], ◌∷◌, ◌++◌, map, Bool, true}
use Rattle.std.proofs.Common.{false, ◌&&◌, cond, Some, nat_cmp}
use Rattle.std.proofs.Common.{refl, sym, ap}
use Rattle.std.proofs.Common.{subst, arith}
use Rattle.std.proofs.lemmas.List.Elements.{All-nil, All-cons}
use Rattle.std.proofs.lemmas.List.Kept.{AllPairs-cons}
use Rattle.std.specs.Cmp.Lexicographic.{slice_cmp}
use Rattle.std.specs.List.{All, AllPairs}
use Rattle.std.specs.Ordering.{is_lt}
use Rattle.std.specs.Prelude.{⊤}
use Rattle.dap_tree.specs.Doc.{Doc, list, object, Items, no_items}
use Rattle.dap_tree.specs.Doc.{item, Members, no_members, member, is_below_all, is_ordered}
use Rattle.dap_tree.specs.Doc.{items_ordered, members_ordered}
use Rattle.dap_tree.specs.Path.{Step, name, place, StepPrecedes, IsBefore}
use Rattle.dap_tree.proofs.Booleans.{and_left, and_right}
use Rattle.dap_difference.specs.Differences.{Difference}
use Rattle.dap_difference.specs.Telling.{same_scalar, only_a, only_b, both, behind, items_of_b}
use Rattle.dap_difference.specs.Telling.{members_of_b, from_member, differences, items_differences}
use Rattle.dap_difference.specs.Telling.{members_differences}
use Rattle.dap_difference.proofs.Members.{below_first, below_lower, turned, one_name}
use Rattle.dap_difference.proofs.Told.{Each, each_append, each_is, each_behind, by_order}

abbrev BeginsAfter : Step → List Step → Type 0
BeginsAfter s [] = ⊥
BeginsAfter s (t ∷ p) = StepPrecedes s t

abbrev After : Step → Difference → Type 0
After s x = BeginsAfter s x.path

abbrev AreOrdered : List Difference → Type 0
AreOrdered [] = ⊤
AreOrdered (x ∷ xs) = Each (λ y. IsBefore x.path y.path) xs × AreOrdered xs

before_one : (s : Step) (p q : List Step) → BeginsAfter s q → IsBefore (s ∷ p) q
before_one s p [] h = absurd h
before_one s p (t ∷ q) h = inl h

before_each : (s : Step) (p : List Step) (ys : List Difference) → Each (After s) ys
    → Each (λ y. IsBefore (s ∷ p) y.path) ys
before_each s p ys h =
    each_is (After s) (λ y. IsBefore (s ∷ p) y.path) (λ y. before_one s p y.path) ys h

after_step : (s t : Step) → StepPrecedes s t → (xs : List Difference)
    → Each (After s) (map (behind t) xs)
after_step s t h [] = tt
after_step s t h (x ∷ xs) = (h, after_step s t h xs)

behind_ordered : (s : Step) (xs ys : List Difference) → AreOrdered xs → AreOrdered ys
    → Each (After s) ys → AreOrdered (map (behind s) xs ++ ys)
behind_ordered s [] ys h k after = k
behind_ordered s (x ∷ xs) ys h k after = (
  each_append (λ y. IsBefore (s ∷ x.path) y.path) (map (behind s) xs) ys
      (each_behind s (λ y. IsBefore x.path y.path) (λ y. IsBefore (s ∷ x.path) y.path)
      (λ y e. inr (refl, e)) xs h.0)
      (before_each s x.path ys after),
  behind_ordered s xs ys h.1 k after,
)

both_ordered : (b : Bool) (x : Difference) → AreOrdered (cond b [] (x ∷ []))
both_ordered true x = tt
both_ordered false x = (tt, tt)

both_are_ordered : (d e : Doc) → AreOrdered (both d e)
both_are_ordered d e =
    let x : Difference = record { path = []; of_a = Some d; of_b = Some e } in
    both_ordered (same_scalar d e) x

-- ---- items

items_of_b_after : (m n : ℕ) (es : Items) → m < n → Each (After (place m)) (items_of_b n es)
items_of_b_after m n no_items h = tt
items_of_b_after m n (item e es) h =
    (h, items_of_b_after m (suc n) es (omega (arith, h)))

items_of_b_ordered : (n : ℕ) (es : Items) → AreOrdered (items_of_b n es)
items_of_b_ordered n no_items = tt
items_of_b_ordered n (item e es) = (
  before_each (place n) [] (items_of_b (suc n) es)
      (items_of_b_after n (suc n) es (omega arith)),
  items_of_b_ordered (suc n) es,
)

items_after : (m n : ℕ) (ds es : Items) → m < n
    → Each (After (place m)) (items_differences n ds es)
items_after m n no_items es h = items_of_b_after m n es h
items_after m n (item d ds) no_items h =
    (h, items_after m (suc n) ds no_items (omega (arith, h)))
items_after m n (item d ds) (item e es) h =
    each_append (After (place m)) (map (behind (place n)) (differences d e))
    (items_differences (suc n) ds es) (after_step (place m) (place n) h (differences d e))
    (items_after m (suc n) ds es (omega (arith, h)))

-- ---- members

members_of_b_after : (q : List ℕ) (ns : Members) → is_below_all q ns ≡ true
    → Each (After (name q)) (members_of_b ns)
members_of_b_after q no_members h = tt
members_of_b_after q (member l e ns) h = (
  and_left (is_lt (slice_cmp nat_cmp q l)) (is_below_all q ns) h,
  members_of_b_after q ns (and_right (is_lt (slice_cmp nat_cmp q l)) (is_below_all q ns) h),
)

members_of_b_ordered : (ns : Members) → members_ordered ns ≡ true → AreOrdered (members_of_b ns)
members_of_b_ordered no_members h = tt
members_of_b_ordered (member l e ns) h =
    let below = and_left (is_below_all l ns) (is_ordered e && members_ordered ns) h in
    let parts = and_right (is_below_all l ns) (is_ordered e && members_ordered ns) h in (
      before_each (name l) [] (members_of_b ns) (members_of_b_after l ns below),
      members_of_b_ordered ns (and_right (is_ordered e) (members_ordered ns) parts),
    )

from_after : (q k : List ℕ) (d : Doc) (differ : Doc → List Difference)
    (rest : Members → List Difference) → is_lt (slice_cmp nat_cmp q k) ≡ true
    → ((ns : Members) → is_below_all q ns ≡ true → Each (After (name q)) (rest ns))
    → (ns : Members) → is_below_all q ns ≡ true
    → Each (After (name q)) (from_member k d differ rest ns)
from_after q k d differ rest low f no_members h = (low, f no_members h)
from_after q k d differ rest low f (member l e ns) h =
    let first = and_left (is_lt (slice_cmp nat_cmp q l)) (is_below_all q ns) h in
    let others = and_right (is_lt (slice_cmp nat_cmp q l)) (is_below_all q ns) h in
    by_order (Each (After (name q))) (slice_cmp nat_cmp k l)
    (only_a (name k) d ∷ rest (member l e ns))
    (map (behind (name k)) (differ e) ++ rest ns)
    (only_b (name l) e ∷ from_member k d differ rest ns)
    (λ less. (low, f (member l e ns) h))
    (λ equal. each_append (After (name q)) (map (behind (name k)) (differ e)) (rest ns)
    (after_step (name q) (name k) low (differ e)) (f ns others))
    (λ greater. (first, from_after q k d differ rest low f ns others))

members_after : (q : List ℕ) (ms ns : Members) → is_below_all q ms ≡ true
    → is_below_all q ns ≡ true → Each (After (name q)) (members_differences ms ns)
members_after q no_members ns h k = members_of_b_after q ns k
members_after q (member k d ms) ns h hn =
    from_after q k d (λ e. differences d e) (λ es. members_differences ms es)
    (and_left (is_lt (slice_cmp nat_cmp q k)) (is_below_all q ms) h)
    (λ es hes. members_after q ms es
    (and_right (is_lt (slice_cmp nat_cmp q k)) (is_below_all q ms) h) hes) ns hn

from_ordered : (k : List ℕ) (d : Doc) (ms : Members) (differ : Doc → List Difference)
    (rest : Members → List Difference) → is_below_all k ms ≡ true
    → ((e : Doc) → is_ordered e ≡ true → AreOrdered (differ e))
    → ((ns : Members) → members_ordered ns ≡ true → AreOrdered (rest ns))
    → ((q : List ℕ) (ns : Members) → is_below_all q ms ≡ true → is_below_all q ns ≡ true
    → Each (After (name q)) (rest ns))
    → (ns : Members) → members_ordered ns ≡ true → AreOrdered (from_member k d differ rest ns)
from_ordered k d ms differ rest low f g after no_members h =
    (before_each (name k) [] (rest no_members) (after k no_members low refl), g no_members h)
from_ordered k d ms differ rest low f g after (member l e ns) h =
    let below = and_left (is_below_all l ns) (is_ordered e && members_ordered ns) h in
    let parts = and_right (is_below_all l ns) (is_ordered e && members_ordered ns) h in
    let e_ordered = and_left (is_ordered e) (members_ordered ns) parts in
    let ns_ordered = and_right (is_ordered e) (members_ordered ns) parts in
    by_order AreOrdered (slice_cmp nat_cmp k l)
    (only_a (name k) d ∷ rest (member l e ns))
    (map (behind (name k)) (differ e) ++ rest ns)
    (only_b (name l) e ∷ from_member k d differ rest ns)
    (λ less. (
      before_each (name k) [] (rest (member l e ns))
          (after k (member l e ns) low (below_first k l e ns less below)),
      g (member l e ns) h,
    ))
    (λ equal. behind_ordered (name k) (differ e) (rest ns) (f e e_ordered) (g ns ns_ordered)
    (after k ns low (subst (λ q. is_below_all q ns ≡ true) (sym (one_name k l equal)) below)))
    (λ greater. let lower = turned k l greater in (
      before_each (name l) [] (from_member k d differ rest ns)
          (from_after l k d differ rest (ap is_lt lower)
          (λ es hes. after l es (below_lower l k ms lower low) hes) ns below),
      from_ordered k d ms differ rest low f g after ns ns_ordered,
    ))

mutual
  ordered : (d e : Doc) → is_ordered d ≡ true → is_ordered e ≡ true
      → AreOrdered (differences d e)
  ordered (list ds) (list es) h k = items_told_ordered 0 ds es h k
  ordered (object ms) (object ns) h k = members_told_ordered ms ns h k
  ordered d e h k = both_are_ordered d e

  items_told_ordered : (n : ℕ) (ds es : Items) → items_ordered ds ≡ true
      → items_ordered es ≡ true → AreOrdered (items_differences n ds es)
  items_told_ordered n no_items es h k = items_of_b_ordered n es
  items_told_ordered n (item d ds) no_items h k = (
    before_each (place n) [] (items_differences (suc n) ds no_items)
        (items_after n (suc n) ds no_items (omega arith)),
    items_told_ordered (suc n) ds no_items (and_right (is_ordered d) (items_ordered ds) h) k,
  )
  items_told_ordered n (item d ds) (item e es) h k =
      behind_ordered (place n) (differences d e) (items_differences (suc n) ds es)
      (ordered d e (and_left (is_ordered d) (items_ordered ds) h)
      (and_left (is_ordered e) (items_ordered es) k))
      (items_told_ordered (suc n) ds es (and_right (is_ordered d) (items_ordered ds) h)
      (and_right (is_ordered e) (items_ordered es) k))
      (items_after n (suc n) ds es (omega arith))

  members_told_ordered : (ms ns : Members) → members_ordered ms ≡ true
      → members_ordered ns ≡ true → AreOrdered (members_differences ms ns)
  members_told_ordered no_members ns h k = members_of_b_ordered ns k
  members_told_ordered (member k d ms) ns h hn =
      let below = and_left (is_below_all k ms) (is_ordered d && members_ordered ms) h in
      let parts = and_right (is_below_all k ms) (is_ordered d && members_ordered ms) h in
      let d_ordered = and_left (is_ordered d) (members_ordered ms) parts in
      let ms_ordered = and_right (is_ordered d) (members_ordered ms) parts in
      from_ordered k d ms (λ e. differences d e) (λ es. members_differences ms es) below
      (λ e he. ordered d e d_ordered he) (λ es hes. members_told_ordered ms es ms_ordered hes)
      (λ q es hq hes. members_after q ms es hq hes) ns hn

-- ---- as in the contracts

abbrev paths : List Difference → List (List Step)
paths xs = map (λ x. x.path) xs

each_path : (P : List Step → Type 0) (xs : List Difference) → Each (λ x. P x.path) xs
    → All P (paths xs)
each_path P [] h = All-nil P
each_path P (x ∷ xs) h = All-cons P x.path (paths xs) h.0 (each_path P xs h.1)

no_pairs : AllPairs IsBefore []
no_pairs i j d less within = absurd (omega (arith, within))

pairs_from : (xs : List Difference) → AreOrdered xs → AllPairs IsBefore (paths xs)
pairs_from [] h = no_pairs
pairs_from (x ∷ xs) h =
    AllPairs-cons IsBefore x.path (paths xs) (each_path (IsBefore x.path) xs h.0)
    (pairs_from xs h.1)

pub told_in_order : (d e : Doc) → is_ordered d ≡ true → is_ordered e ≡ true
    → AllPairs IsBefore (map (λ x. x.path) (differences d e))
told_in_order d e h k = pairs_from (differences d e) (ordered d e h k)
