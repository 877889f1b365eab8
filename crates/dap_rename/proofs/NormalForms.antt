-- The normal form exists, can be computed message by message, and has small numbers.
use Rattle.std.proofs.Common.{◌≡◌, ℕ, suc, ◌+◌, ◌<◌, ◌≤◌, ◌^◌, ℤ, pos, true, List, [], ◌∷◌, ◌++◌}
use Rattle.std.proofs.Common.{length, map, inl, inr, refl, sym, ◌∙◌, ap, subst, arith, append_assoc}
use Rattle.std.proofs.Common.{append-nil}
use Rattle.std.proofs.lemmas.Bool.{lt-ltb, and_from}
use Rattle.std.proofs.lemmas.List.{map-append}
use Rattle.std.specs.List.{list_any, list_all, position_or_len, AllByRecursion}
use Rattle.std.specs.Ordering.{int_eq}
use Rattle.std.proofs.lemmas.Bool.Decides.{Decides-int_eq}
use Rattle.dap_tree.specs.Ids.{ids, sorts_of, numbers_of, with_ids}
use Rattle.dap_tree.specs.declared.sort.Sort.{Sort}
use Rattle.dap_tree.proofs.IdNumbers.{ids-with_numbers, skeleton-with}
use Rattle.dap_message.specs.Message.{Sent}
use Rattle.dap_message.specs.Numbers.{is_small, has_small_ids}
use Rattle.dap_rename.specs.Numbering.{add, add_all, numbers, table, name, named, IsFresh}
use Rattle.dap_rename.specs.Renamings.{IsIn}
use Rattle.dap_rename.specs.Messages.{Class, AreProper, AreSame, class_after, occurrence}
use Rattle.dap_rename.specs.Messages.{occurrences}
use Rattle.dap_rename.specs.Messages.{message_skeleton, same_class, stops_after, IsNormal, names_of}
use Rattle.dap_rename.specs.Messages.{normal_from, normal_of}
use Rattle.dap_rename.specs.Laws.{IsToldBySkeleton, WholeIffRenaming, SomeNormal, NormalOfFront}
use Rattle.dap_rename.specs.Laws.{NormalOfNext, NamesAreCounted, NamesAreSmall, SameCounts}
use Rattle.dap_rename.specs.Laws.{FrontHasFewIds}
use Rattle.dap_rename.proofs.Additions.{by_bool, numbers-append, add_all-append, any-table, up_to}
use Rattle.dap_rename.proofs.Additions.{length-up_to, place_up_to, place_below}
use Rattle.dap_rename.proofs.FreshLists.{IsCounted, Counts, counted-push, counts-push, fresh-next}
use Rattle.dap_rename.proofs.FreshLists.{fresh-step, length-push}
use Rattle.dap_rename.proofs.Lists.{same_cons, each_of, each-append, each_left, each_right}
use Rattle.dap_rename.proofs.Occurrences.{class_decides, class_sort, occurrences-append}
use Rattle.dap_rename.proofs.Occurrences.{occurrences-push, stops_alike, same_sent, seconds}
use Rattle.dap_rename.proofs.Sameness.{alike, fresh_names, same_as_itself, same_is_proper}
use Rattle.dap_rename.proofs.Sameness.{normal_is_unique, named_is_normal}

pub whole_is_told : WholeIffRenaming
whole_is_told m n h = refl

-- lists that are the same have equally many stops
pub same_stops : (stop : Sent → ℕ) → IsToldBySkeleton stop → (ms ns : List Sent)
    → AreSame stop ms ns → stops_after stop 0 ms ≡ stops_after stop 0 ns
same_stops stop reported ms ns s = stops_alike stop reported 0 ms ns (alike stop ms ns s).skeletons

-- ---- canonical numbers are ids

-- the kinds and numbers of occurrences
abbrev pub back : List (Class × ℤ) → List (Sort × ℤ)
back [] = []
back (o ∷ os) = (o.0.0, o.1) ∷ back os

pub back_numbers : (os : List (Class × ℤ)) → numbers_of (back os) ≡ seconds os
back_numbers [] = refl
back_numbers (o ∷ os) = ap (λ t. o.1 ∷ t) (back_numbers os)

pub named_again : (stops : ℕ) (before : List (Class × ℤ)) (is : List (Sort × ℤ))
    → map (occurrence stops) (back (named same_class before (map (occurrence stops) is)))
    ≡ named same_class before (map (occurrence stops) is)
named_again stops before [] = refl
named_again stops before (i ∷ is) =
    same_cons _ _ _ _
    (ap (λ s. (class_after stops s, name same_class before (occurrence stops i)))
    (class_sort stops i.0)) (named_again stops (before ++ occurrence stops i ∷ []) is)

pub named_sorts : (stops : ℕ) (before : List (Class × ℤ)) (is : List (Sort × ℤ))
    → sorts_of (back (named same_class before (map (occurrence stops) is))) ≡ sorts_of is
named_sorts stops before [] = refl
named_sorts stops before (i ∷ is) =
    same_cons (class_after stops i.0).0 i.0 _ _ (class_sort stops i.0)
    (named_sorts stops (before ++ occurrence stops i ∷ []) is)

pub named-append : (before xs ys : List (Class × ℤ))
    → named same_class before (xs ++ ys)
    ≡ named same_class before xs ++ named same_class (before ++ xs) ys
named-append before [] ys = ap (λ b. named same_class b ys) (sym (append-nil before))
named-append before (x ∷ xs) ys =
    ap (λ t. (x.0, name same_class before x) ∷ t) (named-append (before ++ x ∷ []) xs ys
    ∙ ap (λ b. named same_class (before ++ x ∷ []) xs ++ named same_class b ys)
    (append_assoc before (x ∷ []) xs))

-- ---- the messages with the canonical numbers of their ids

abbrev pub named_message : List (Class × ℤ) → ℕ → Sent → Sent
named_message before stops m =
    record { side = m.side; doc = with_ids m.doc (names_of before stops m) }

pub named_skeleton : (before : List (Class × ℤ)) (stops : ℕ) (m : Sent)
    → message_skeleton (named_message before stops m) ≡ message_skeleton m
named_skeleton before stops m = same_sent m.side m.side _ _ refl (skeleton-with m.doc _)

pub named_ids : (before : List (Class × ℤ)) (stops : ℕ) (m : Sent)
    → map (occurrence stops) (ids (named_message before stops m).doc)
    ≡ named same_class before (map (occurrence stops) (ids m.doc))
named_ids before stops m =
    let os = named same_class before (map (occurrence stops) (ids m.doc)) in
    ap (λ ns. map (occurrence stops) (ids (with_ids m.doc ns))) (sym (back_numbers os))
    ∙ ap (map (occurrence stops))
    (ids-with_numbers m.doc (back os) (named_sorts stops before (ids m.doc)))
    ∙ named_again stops before (ids m.doc)

pub normal_skeletons : (stop : Sent → ℕ) (before : List (Class × ℤ)) (stops : ℕ) (ms : List Sent)
    → map message_skeleton (normal_from stop before stops ms) ≡ map message_skeleton ms
normal_skeletons stop before stops [] = refl
normal_skeletons stop before stops (m ∷ ms) =
    same_cons _ _ _ _ (named_skeleton before stops m)
    (normal_skeletons stop (before ++ map (occurrence stops) (ids m.doc)) (stops + stop m) ms)

pub normal_occurrences : (stop : Sent → ℕ) → IsToldBySkeleton stop
    → (before : List (Class × ℤ)) (stops : ℕ) (ms : List Sent)
    → occurrences stop stops (normal_from stop before stops ms)
    ≡ named same_class before (occurrences stop stops ms)
normal_occurrences stop reported before stops [] = refl
normal_occurrences stop reported before stops (m ∷ ms) =
    let os : List (Class × ℤ) = map (occurrence stops) (ids m.doc) in
    let rest = normal_from stop (before ++ os) (stops + stop m) ms in
    ap (λ k. map (occurrence stops) (ids (named_message before stops m).doc)
    ++ occurrences stop (stops + k) rest)
    (reported (named_message before stops m) m (named_skeleton before stops m))
    ∙ ap (λ t. t ++ occurrences stop (stops + stop m) rest) (named_ids before stops m)
    ∙ ap (λ t. named same_class before os ++ t)
    (normal_occurrences stop reported (before ++ os) (stops + stop m) ms)
    ∙ sym (named-append before os (occurrences stop (stops + stop m) ms))

pub some_normal : SomeNormal
some_normal stop reported ms p =
    named_is_normal stop ms (normal_of stop ms) p (normal_skeletons stop [] 0 ms)
    (normal_occurrences stop reported [] 0 ms)

pub normal_one : (stop : Sent → ℕ) → IsToldBySkeleton stop → (ms n : List Sent) → AreProper ms
    → IsNormal stop ms n → n ≡ normal_of stop ms
normal_one stop reported ms n p h =
    normal_is_unique stop ms ms n (normal_of stop ms) (same_as_itself stop ms p) h
    (some_normal stop reported ms p)

-- ---- prefixes

pub normal_front : (stop : Sent → ℕ) (before : List (Class × ℤ)) (stops : ℕ) (ms more : List Sent)
    → (rest : List Sent)
    × (normal_from stop before stops (ms ++ more) ≡ normal_from stop before stops ms ++ rest)
normal_front stop before stops [] more = (normal_from stop before stops more, refl)
normal_front stop before stops (m ∷ ms) more =
    let r = normal_front stop (before ++ map (occurrence stops) (ids m.doc)) (stops + stop m) ms
    more in
    (r.0, ap (λ t. named_message before stops m ∷ t) r.1)

pub normal_of_front : NormalOfFront
unfolding IsNormal
normal_of_front stop reported ms more n h =
    let p = (same_is_proper stop (ms ++ more) n h.0).0 in
    let r = normal_front stop [] 0 ms more in (
      normal_of stop ms,
      r.0,
      normal_one stop reported (ms ++ more) n p h
          ∙ r.1,
      some_normal stop reported ms (each_left _ ms more p),
    )

-- the ids of a normal form
pub normal_names : (stop : Sent → ℕ) (ms n : List Sent) → IsNormal stop ms n
    → occurrences stop 0 n ≡ named same_class [] (occurrences stop 0 ms)
unfolding IsNormal
normal_names stop ms n h = let a =
    alike stop ms n h.0 in sym (fresh_names (occurrences stop 0 n) h.1) ∙ sym a.names

pub normal_of_next : NormalOfNext
unfolding IsNormal
normal_of_next stop reported ms n m new p h r =
    let a = alike stop ms n h.0 in
    let k = stops_after stop 0 ms in
    let os : List (Class × ℤ) = map (occurrence k) (ids m.doc) in
    let same_stops : stops_after stop 0 n
    ≡ k = sym (stops_alike stop reported 0 ms n a.skeletons) in
    let skeletons =
    map-append message_skeleton n (new ∷ [])
    ∙ (ap (λ t. t ++ message_skeleton new ∷ []) (sym a.skeletons)
    ∙ (ap (λ s. map message_skeleton ms ++ s ∷ []) r.skeleton
    ∙ sym (map-append message_skeleton ms (m ∷ [])))) in
    let names = occurrences-push stop 0 n new
    ∙ ap (λ s. occurrences stop 0 n ++ map (occurrence s) (ids new.doc)) same_stops
    ∙ ap (λ t. t ++ map (occurrence k) (ids new.doc)) (normal_names stop ms n h)
    ∙ ap (λ t. named same_class [] (occurrences stop 0 ms) ++ t) r.names
    ∙ sym (named-append [] (occurrences stop 0 ms) os)
    ∙ ap (named same_class []) (sym (occurrences-push stop 0 ms m)) in
    named_is_normal stop (ms ++ m ∷ []) (n ++ new ∷ [])
    (each-append _ ms (m ∷ []) (same_is_proper stop ms n h.0).0 (p, tt)) skeletons names

-- ---- counts

pub named_counts : (e d os : List (Class × ℤ)) → Counts same_class class_decides e d
    → Counts same_class class_decides (e ++ os) (d ++ named same_class e os)
named_counts e d [] h =
    subst (λ t. Counts same_class class_decides t (d ++ [])) (sym (append-nil e))
    (subst (Counts same_class class_decides e) (sym (append-nil d)) h)
named_counts e d (o ∷ os) h =
    let next = named_counts (e ++ o ∷ []) (d ++ (o.0, name same_class e o) ∷ []) os
    (counts-push same_class class_decides e d o h) in
    subst (λ t. Counts same_class class_decides t (d ++ named same_class e (o ∷ os)))
    (append_assoc e (o ∷ []) os)
    (subst (Counts same_class class_decides ((e ++ o ∷ []) ++ os))
    (append_assoc d ((o.0, name same_class e o) ∷ []) (named same_class (e ++ o ∷ []) os)) next)

pub count_named : (os : List (Class × ℤ)) (c : Class)
    → length (table same_class c (named same_class [] os)) ≡ length (table same_class c os)
unfolding Counts table
count_named os c = let h = named_counts [] [] os (λ d. refl) c in ap length h ∙ length-up_to _

pub same_counts : SameCounts
same_counts stop ms ns s c =
    let a = alike stop ms ns s in
    sym (count_named (occurrences stop 0 ms) c)
    ∙ (ap (λ os. length (table same_class c os)) a.names
    ∙ count_named (occurrences stop 0 ns) c)

pub add_longer : (t : List ℤ) (x : ℤ) → length t ≤ length (add t x)
add_longer t x =
    by_bool (list_any (int_eq x) t) (λ a. rw a (omega arith))
    (λ a. rw (a, length-push t x) (omega arith))

pub add_all_longer : (t xs : List ℤ) → length t ≤ length (add_all t xs)
add_all_longer t [] = omega arith
add_all_longer t (x ∷ xs) = let a = add_longer t x in let b =
    add_all_longer (add t x) xs in omega arith

pub table_front : (c : Class) (xs ys : List (Class × ℤ))
    → length (table same_class c xs) ≤ length (table same_class c (xs ++ ys))
unfolding table
table_front c xs ys =
    rw (numbers-append, add_all-append)
    (add_all_longer (add_all [] (numbers same_class c xs)) (numbers same_class c ys))

pub front_has_few_ids : FrontHasFewIds
front_has_few_ids stop limit ms more h c =
    let rest = occurrences stop (stops_after stop 0 ms) more in
    let whole : length (table same_class c (occurrences stop 0 ms ++ rest)) ≤ limit c.0 =
    subst (λ os. length (table same_class c os)
    ≤ limit c.0) (occurrences-append stop 0 ms more) (h c) in
    let front = table_front c (occurrences stop 0 ms) rest in
    omega arith

-- ---- small canonical numbers

pub counted_all : (e os : List (Class × ℤ)) → IsCounted same_class class_decides e
    → IsFresh same_class (e ++ os) → IsCounted same_class class_decides (e ++ os)
counted_all e [] h f = subst (IsCounted same_class class_decides) (sym (append-nil e)) h
counted_all e (o ∷ os) h f =
    let next = counted_all (e ++ o ∷ []) os
    (counted-push same_class class_decides e o h (fresh-next same_class class_decides e os o f))
    (fresh-step same_class class_decides e os o f) in
    subst (IsCounted same_class class_decides) (append_assoc e (o ∷ []) os) next

pub number_in : (c : Class) (x : ℤ) (os : List (Class × ℤ)) → IsIn (c, x) os
    → list_any (int_eq x) (numbers same_class c os) ≡ true
number_in c x [] i = absurd i
number_in c x (o ∷ os) (inl e) =
    let s : same_class c o.0 ≡ true = (class_decides c o.0).1 (ap (λ (p : Class × ℤ). p.0) e) in
    let n : int_eq x o.1 ≡ true = (Decides-int_eq x o.1).1 (ap (λ (p : Class × ℤ). p.1) e) in
    rw (s, n) refl
number_in c x (o ∷ os) (inr i) =
    let h = number_in c x os i in
    by_bool (same_class c o.0) (λ s. rw s (by_bool (int_eq x o.1) (λ n. rw n refl) (λ n. rw n h)))
    (λ s. rw s h)

pub fresh_counted : (os : List (Class × ℤ)) (c : Class) (x : ℤ) → IsFresh same_class os
    → IsIn (c, x) os → (k : ℕ) × (x ≡ pos (suc k)) × (k < length (table same_class c os))
unfolding IsCounted table
fresh_counted os c x f i =
    let t = table same_class c os in
    let counted : t ≡ up_to (length t) = counted_all [] os (λ d. refl) f c in
    let there : list_any (int_eq x) (up_to (length t)) ≡ true =
    sym (ap (list_any (int_eq x)) counted)
    ∙ (any-table same_class c os x ∙ number_in c x os i) in
    let below : position_or_len (int_eq x) (up_to (length t)) < length (up_to (length t)) =
    place_below (int_eq x) (up_to (length t)) there in (
      position_or_len (int_eq x) (up_to (length t)),
      place_up_to (length t) x there,
      omega (arith, below, length-up_to (length t)),
    )

pub names_are_counted : NamesAreCounted
unfolding IsNormal
names_are_counted stop ms n h c x i =
    let r = fresh_counted (occurrences stop 0 n) c x h.1 i in
    let count = same_counts stop ms n h.0 c in
    (r.0, r.1, omega (arith, r.2, count))

pub small_ids : (k : ℕ) (is : List (Sort × ℤ))
    → AllByRecursion (λ o. is_small o.1 ≡ true) (map (occurrence k) is)
    → list_all (λ i. is_small i.1) is ≡ true
small_ids k [] h = refl
small_ids k (i ∷ is) h =
    and_from (is_small i.1) (list_all (λ j. is_small j.1) is) h.0 (small_ids k is h.1)

pub small_messages : (stop : Sent → ℕ) (k : ℕ) (ms : List Sent)
    → AllByRecursion (λ o. is_small o.1 ≡ true) (occurrences stop k ms)
    → AllByRecursion (λ m. has_small_ids m.doc ≡ true) ms
small_messages stop k [] h = tt
small_messages stop k (m ∷ ms) h = (
  small_ids k (ids m.doc)
      (each_left _ (map (occurrence k) (ids m.doc)) (occurrences stop (k + stop m) ms) h),
  small_messages stop (k + stop m) ms
      (each_right _ (map (occurrence k) (ids m.doc)) (occurrences stop (k + stop m) ms) h),
)

pub small_name : (k : ℕ) → k + 1 < 2 ^ 31 → is_small (pos (suc k)) ≡ true
small_name k h =
    and_from _ _ (lt-ltb 0 (suc k) (omega arith)) (lt-ltb (suc k) (2 ^ 31) (omega (arith, h)))

pub names_are_small : NamesAreSmall
names_are_small stop limit ms n small few h =
    small_messages stop 0 n (each_of _ (occurrences stop 0 n) (λ o i.
    let r = names_are_counted stop ms n h o.0 o.1 i in
    let top = small o.0.0 in
    let count = few o.0 in
    ap is_small r.1 ∙ small_name r.0 (omega (arith, r.2, top, count))))
