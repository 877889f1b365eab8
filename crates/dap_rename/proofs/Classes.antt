-- The classes that exist after a given number of stops.
use Rattle.std.proofs.Common.{◌≡◌, ℕ, zero, suc, ◌+◌, ◌<◌, ◌≤◌, ℤ, Bool, true, false, ◌&&◌, not}
use Rattle.std.proofs.Common.{List, [], ◌∷◌, ◌++◌, map, inl, inr, eqb, refl, sym, ◌∙◌, ap, subst}
use Rattle.std.proofs.Common.{arith, true≢false}
use Rattle.std.proofs.lemmas.Bool.{and_parts, eqb-true, eq-eqb}
use Rattle.std.specs.List.{list_any, flat_map, AllByRecursion}
use Rattle.dap_tree.specs.Ids.{ids}
use Rattle.dap_tree.specs.declared.sort.Sort.{Sort}
use Rattle.dap_tree.specs.declared.sort.Sort.TheVariants.{Frame, Reference}
use Rattle.dap_tree.proofs.Booleans.{or_left, or_right}
use Rattle.dap_message.specs.Message.{Sent}
use Rattle.dap_rename.specs.Messages.{Class, class_after, occurrence, occurrences, stops_after}
use Rattle.dap_rename.specs.Messages.{first_classes, classes_of_sort, all_classes}
use Rattle.dap_rename.specs.Renamings.{IsIn}
use Rattle.dap_rename.specs.Sorts.{all_sorts, same_sort}
use Rattle.dap_rename.proofs.Additions.{by_bool}
use Rattle.dap_tree.proofs.Sorts.{told_same_sort}
use Rattle.dap_rename.proofs.AllSorts.{in_all_sorts}
use Rattle.dap_rename.proofs.Lists.{each-append, each-more, in-left, in-right}
use Rattle.dap_rename.proofs.Occurrences.{class_sort}
use Rattle.dap_rename.proofs.RelatedLists.{Distinct}

-- ---- no class occurs twice

distinct-append : {X : Type 0} (xs ys : List X) → Distinct xs → Distinct ys
    → AllByRecursion (λ x. AllByRecursion (λ y. x ≡ y → ⊥) ys) xs → Distinct (xs ++ ys)
distinct-append [] ys d e h = e
distinct-append (x ∷ xs) ys d e h =
    (each-append (λ y. x ≡ y → ⊥) xs ys d.0 h.0, distinct-append xs ys d.1 e h.1)

-- a class of this kind with a stop below n
abbrev pub IsBelow : Sort → ℕ → Class → Type 0
IsBelow s n c = (c.0 ≡ s) × (c.1 < n)

first_below : (s : Sort) (n : ℕ) → AllByRecursion (IsBelow s n) (first_classes s n)
first_below s zero = tt
first_below s (suc n) =
    each-append (IsBelow s (suc n)) (first_classes s n) ((s, n) ∷ [])
    (each-more (IsBelow s n) (IsBelow s (suc n)) (first_classes s n)
    (λ c h. (h.0, omega (arith, h.1))) (first_below s n)) ((refl, omega arith), tt)

first_distinct : (s : Sort) (n : ℕ) → Distinct (first_classes s n)
first_distinct s zero = tt
first_distinct s (suc n) =
    distinct-append (first_classes s n) ((s, n) ∷ []) (first_distinct s n) (tt, tt)
    (each-more (IsBelow s n) (λ c. AllByRecursion (λ d. c ≡ d → ⊥) ((s, n) ∷ []))
    (first_classes s n) (λ c h. ((λ e. below_itself c.1 n h.1 (ap (λ (d : Class). d.1) e)), tt))
    (first_below s n))
  where
    below_itself : (j n : ℕ) → j < n → j ≡ n → ⊥
    below_itself j n h e = omega arith

-- kinds that are pairwise different, as a test
abbrev pub sorts_differ : List Sort → Bool
sorts_differ [] = true
sorts_differ (s ∷ ss) = not (list_any (same_sort s) ss) && sorts_differ ss

none_equal : (s : Sort) (ss : List Sort) → list_any (same_sort s) ss ≡ false
    → AllByRecursion (λ t. s ≡ t → ⊥) ss
none_equal s [] h = tt
none_equal s (t ∷ ss) h = (
  (λ e. true≢false (sym (told_same_sort s t e)
      ∙ or_left (same_sort s t) (list_any (same_sort s) ss) h)),
  none_equal s ss (or_right (same_sort s t) (list_any (same_sort s) ss) h),
)

-- every class of these kinds has one of them
of_sorts : (stops : ℕ) (P : Sort → Type 0) (ss : List Sort) → AllByRecursion P ss
    → AllByRecursion (λ (c : Class). P c.0) (flat_map (classes_of_sort stops) ss)
of_sorts stops P [] h = tt
of_sorts stops P (s ∷ ss) h =
    let n = suc (class_after stops s).1 in
    each-append (λ (c : Class). P c.0) (first_classes s n) (flat_map (classes_of_sort stops) ss)
    (each-more (IsBelow s n) (λ (c : Class). P c.0) (first_classes s n)
    (λ c b. subst P (sym b.0) h.0) (first_below s n)) (of_sorts stops P ss h.1)

sorts_distinct : (stops : ℕ) (ss : List Sort) → sorts_differ ss ≡ true
    → Distinct (flat_map (classes_of_sort stops) ss)
sorts_distinct stops [] h = tt
sorts_distinct stops (s ∷ ss) h =
    let parts = and_parts (not (list_any (same_sort s) ss)) (sorts_differ ss) h in
    let n = suc (class_after stops s).1 in
    let others = flat_map (classes_of_sort stops) ss in
    let apart = none_equal s ss (not_true (list_any (same_sort s) ss) parts.0) in
    distinct-append (first_classes s n) others (first_distinct s n)
    (sorts_distinct stops ss parts.1)
    (each-more (IsBelow s n) (λ c. AllByRecursion (λ d. c ≡ d → ⊥) others) (first_classes s n)
    (λ c b. each-more (λ (d : Class). s ≡ d.0 → ⊥) (λ d. c ≡ d → ⊥) others
    (λ d q e. q (sym b.0 ∙ ap (λ (x : Class). x.0) e))
    (of_sorts stops (λ t. s ≡ t → ⊥) ss apart)) (first_below s n))
  where
    not_true : (b : Bool) → not b ≡ true → b ≡ false
    not_true true e = sym e
    not_true false e = refl

pub classes_differ : (stops : ℕ) → Distinct (all_classes stops)
classes_differ stops = sorts_distinct stops all_sorts refl

-- ---- every occurrence has one of these classes

in_first : (s : Sort) (j n : ℕ) → j < n → IsIn (s, j) (first_classes s n)
in_first s j zero h = absurd (omega (arith, h))
in_first s j (suc n) h =
    by_bool (eqb j n)
    (λ a. in-right (s, j) (first_classes s n) ((s, n) ∷ [])
    (inl (ap (λ k. (s, k)) (eqb-true j n a))))
    (λ a. in-left (s, j) (first_classes s n) ((s, n) ∷ [])
    (in_first s j n (below j n h (λ e. true≢false (sym (eq-eqb j n e) ∙ a)))))
  where
    below : (j n : ℕ) → j < suc n → (j ≡ n → ⊥) → j < n
    below j n h apart = omega (arith, h, apart)

in_sorts : (stops : ℕ) (c : Class) (s : Sort) (ss : List Sort) → IsIn s ss
    → IsIn c (classes_of_sort stops s) → IsIn c (flat_map (classes_of_sort stops) ss)
in_sorts stops c s [] i h = absurd i
in_sorts stops c s (t ∷ ss) (inl e) h =
    in-left c (classes_of_sort stops t) (flat_map (classes_of_sort stops) ss)
    (subst (λ r. IsIn c (classes_of_sort stops r)) e h)
in_sorts stops c s (t ∷ ss) (inr i) h =
    in-right c (classes_of_sort stops t) (flat_map (classes_of_sort stops) ss)
    (in_sorts stops c s ss i h)

later_class : (j k : ℕ) (s : Sort) → j ≤ k → (class_after j s).1 < suc (class_after k s).1
later_class j k Frame h = omega (arith, h)
later_class j k Reference h = omega (arith, h)
later_class j k s h = omega arith

-- an id after at most k stops has one of the classes for k stops
reached : (j k : ℕ) (s : Sort) → j ≤ k → IsIn (class_after j s) (all_classes k)
reached j k s h =
    in_sorts k (class_after j s) s all_sorts (in_all_sorts s)
    (subst (λ r. IsIn (r, (class_after j s).1) (classes_of_sort k s)) (sym (class_sort j s))
    (in_first s (class_after j s).1 (suc (class_after k s).1) (later_class j k s h)))

ids_reached : (j k : ℕ) (is : List (Sort × ℤ)) → j ≤ k
    → AllByRecursion (λ o. IsIn o.0 (all_classes k)) (map (occurrence j) is)
ids_reached j k [] h = tt
ids_reached j k (i ∷ is) h = (reached j k i.0 h, ids_reached j k is h)

stops_grow : (stop : Sent → ℕ) (k : ℕ) (ms : List Sent) → k ≤ stops_after stop k ms
stops_grow stop k [] = omega arith
stops_grow stop k (m ∷ ms) = let h = stops_grow stop (k + stop m) ms in omega (arith, h)

from_reached : (stop : Sent → ℕ) (k n : ℕ) (ms : List Sent) → stops_after stop k ms ≤ n
    → AllByRecursion (λ o. IsIn o.0 (all_classes n)) (occurrences stop k ms)
from_reached stop k n [] h = tt
from_reached stop k n (m ∷ ms) h =
    let grown = stops_grow stop (k + stop m) ms in
    each-append (λ o. IsIn o.0 (all_classes n)) (map (occurrence k) (ids m.doc))
    (occurrences stop (k + stop m) ms) (ids_reached k n (ids m.doc) (omega (arith, grown, h)))
    (from_reached stop (k + stop m) n ms h)

pub all_reached : (stop : Sent → ℕ) (ms : List Sent)
    → AllByRecursion (λ o. IsIn o.0 (all_classes (stops_after stop 0 ms))) (occurrences stop 0 ms)
all_reached stop ms = from_reached stop 0 (stops_after stop 0 ms) ms (omega arith)
