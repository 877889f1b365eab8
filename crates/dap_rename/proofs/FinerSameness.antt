-- Lists that are the same in the mode `Whole` are the same in every mode: a renaming in that mode
-- also renames each class into which another mode divides its classes.
use Rattle.std.proofs.Common.{◌≡◌, ℕ, ◌+◌, ℤ, Bool, true, false, cond, ◌&&◌, List, [], ◌∷◌, ◌++◌}
use Rattle.std.proofs.Common.{map, inl, inr, refl, sym, ◌∙◌, ap₂, true≢false}
use Rattle.std.proofs.lemmas.Bool.Decides.{Decides-int_eq}
use Rattle.std.proofs.lemmas.List.{map-append}
use Rattle.std.specs.List.{list_any, AllByRecursion}
use Rattle.std.specs.Ordering.{int_eq}
use Rattle.dap_tree.specs.Ids.{ids}
use Rattle.dap_tree.specs.declared.sort.Sort.{Sort}
use Rattle.dap_tree.proofs.Booleans.{and_left, and_right}
use Rattle.dap_message.specs.Message.{Sent}
use Rattle.dap_rename.proofs.Additions.{by_bool}
use Rattle.dap_rename.proofs.MixedNames.{firsts}
use Rattle.dap_rename.specs.Laws.{SameInEachMode}
use Rattle.dap_rename.specs.Messages.{Class, IsProperId, AreSame, no_stop}
use Rattle.dap_rename.specs.Messages.{occurrence, occurrences, same_class}
use Rattle.dap_rename.specs.Modes.{stop_in}
use Rattle.dap_rename.specs.Renamings.{IsIn, AreApart, IsRenaming, AreRelated}
use Rattle.dap_rename.proofs.Lists.{head_of, tail_of}
use Rattle.dap_rename.proofs.Occurrences.{class_decides, class_sort, first_class, firsts_alike}
use Rattle.dap_rename.proofs.RelatedLists.{gives_one, takes_one}
use Rattle.dap_rename.proofs.Sameness.{in_is}
use Rattle.dap_rename.proofs.Stops.{mode_is_told}

-- ---- the class in the mode `Whole` that contains this class

abbrev pub whole_class : Class → Class
whole_class c = (c.0, 0)

abbrev pub in_whole_class : Class × ℤ → Class × ℤ
in_whole_class o = (whole_class o.0, o.1)

whole_ids : (k : ℕ) (is : List (Sort × ℤ))
    → map in_whole_class (map (occurrence k) is) ≡ map (occurrence 0) is
whole_ids k [] = refl
whole_ids k (i ∷ is) = rw (class_sort k i.0, first_class i.0, whole_ids k is) refl

whole_occurrences : (stop : Sent → ℕ) (k : ℕ) (ms : List Sent)
    → map in_whole_class (occurrences stop k ms) ≡ occurrences no_stop 0 ms
whole_occurrences stop k [] = refl
whole_occurrences stop k (m ∷ ms) =
    map-append in_whole_class (map (occurrence k) (ids m.doc)) (occurrences stop (k + stop m) ms)
    ∙ ap₂ (λ a b. a ++ b) (whole_ids k (ids m.doc)) (whole_occurrences stop (k + stop m) ms)

-- ---- the entries for lists that a renaming in the mode `Whole` relates

-- the entry is for this occurrence
abbrev takes : Class × ℤ → Class × ℤ × ℤ → Bool
takes o p = same_class o.0 p.0 && int_eq o.1 p.1

-- one entry for each position, without duplicates
abbrev entries_of : List (Class × ℤ) → List (Class × ℤ) → List (Class × ℤ × ℤ)
entries_of [] ys = []
entries_of (o ∷ xs) [] = []
entries_of (o ∷ xs) (p ∷ ys) =
    cond (list_any (takes o) (entries_of xs ys)) (entries_of xs ys)
    ((o.0, o.1, p.1) ∷ entries_of xs ys)

taken_class : (o : Class × ℤ) (p : Class × ℤ × ℤ) → takes o p ≡ true → o.0 ≡ p.0
taken_class o p h = (class_decides o.0 p.0).0 (and_left (same_class o.0 p.0) (int_eq o.1 p.1) h)

taken_number : (o : Class × ℤ) (p : Class × ℤ × ℤ) → takes o p ≡ true → o.1 ≡ p.1
taken_number o p h = (Decides-int_eq o.1 p.1).0 (and_right (same_class o.0 p.0) (int_eq o.1 p.1) h)

module _ (r : List (Class × ℤ × ℤ)) (ok : IsRenaming IsProperId r) where
  -- the renaming in the mode `Whole` has the entry
  abbrev IsWhole : Class × ℤ × ℤ → Type 0
  IsWhole p = IsIn (whole_class p.0, p.1, p.2) r

  related_in_whole : (xs ys : List (Class × ℤ))
      → AreRelated r (map in_whole_class xs) (map in_whole_class ys)
      → AllByRecursion IsWhole (entries_of xs ys)
  related_in_whole [] ys h = tt
  related_in_whole (o ∷ xs) [] h = absurd h
  related_in_whole (o ∷ xs) (p ∷ ys) h =
      let more = related_in_whole xs ys h.2 in
      by_bool (list_any (takes o) (entries_of xs ys))
      (λ a. rw a more) (λ a. rw a (h.1, more))

  -- an entry whose number is not mapped yet is compatible with all others
  apart : (o : Class × ℤ) (y : ℤ) (q : List (Class × ℤ × ℤ)) → IsWhole (o.0, o.1, y)
      → AllByRecursion IsWhole q → list_any (takes o) q ≡ false
      → AllByRecursion (AreApart (o.0, o.1, y)) q
  apart o y [] i h none = tt
  apart o y (p ∷ q) i h none =
      by_bool (takes o p)
      (λ a. absurd (true≢false (rw a at none)))
      (λ a. (
        (λ e. (
          (λ f. true≢false (sym (both o p e f) ∙ a)),
          (λ g. true≢false (sym (both o p e (takes_one IsProperId r ok (whole_class o.0) o.1 p.1 y i
              (as_one o p y e g h.0))) ∙ a)),
        )),
        apart o y q i h.1 (rw a at none),
      ))
    where
      both : (o : Class × ℤ) (p : Class × ℤ × ℤ) → o.0 ≡ p.0 → o.1 ≡ p.1 → takes o p ≡ true
      both o p e f =
          rw ((class_decides o.0 p.0).1 e, (Decides-int_eq o.1 p.1).1 f) refl

      as_one : (o : Class × ℤ) (p : Class × ℤ × ℤ) (y : ℤ) → o.0 ≡ p.0 → y ≡ p.2 → IsWhole p
          → IsIn (whole_class o.0, p.1, y) r
      as_one o p y e g i = rw (e, g) i

  entries_rename : (xs ys : List (Class × ℤ))
      → AreRelated r (map in_whole_class xs) (map in_whole_class ys)
      → IsRenaming IsProperId (entries_of xs ys)
  entries_rename [] ys h = tt
  entries_rename (o ∷ xs) [] h = absurd h
  entries_rename (o ∷ xs) (p ∷ ys) h =
      let more = entries_rename xs ys h.2 in
      by_bool (list_any (takes o) (entries_of xs ys))
      (λ a. rw a more)
      (λ a. rw a (
        in_is r ok (whole_class o.0, o.1, p.1) h.1,
        apart o p.1 (entries_of xs ys) h.1 (related_in_whole xs ys h.2) a,
        more,
      ))

  -- the entry for a number maps it to the same number as the renaming in the mode `Whole`
  found : (o : Class × ℤ) (y : ℤ) (q : List (Class × ℤ × ℤ)) → IsWhole (o.0, o.1, y)
      → AllByRecursion IsWhole q → list_any (takes o) q ≡ true → IsIn (o.0, o.1, y) q
  found o y [] i h some = absurd (true≢false (sym some))
  found o y (p ∷ q) i h some =
      by_bool (takes o p)
      (λ a. inl (one o p y i h.0 (taken_class o p a) (taken_number o p a)))
      (λ a. inr (found o y q i h.1 (rw a at some)))
    where
      one : (o : Class × ℤ) (p : Class × ℤ × ℤ) (y : ℤ) → IsWhole (o.0, o.1, y) → IsWhole p
          → o.0 ≡ p.0 → o.1 ≡ p.1 → ◌≡◌ {A = Class × ℤ × ℤ} (o.0, o.1, y) p
      one o p y i j e f =
          let k : IsIn (whole_class o.0, o.1, p.2) r = rw (e, f) j in
          rw (gives_one IsProperId r ok (whole_class o.0) o.1 y p.2 i k, e, f) refl

  related_by : (q : List (Class × ℤ × ℤ)) (xs ys : List (Class × ℤ)) → firsts xs ≡ firsts ys
      → ((o : Class × ℤ × ℤ) → IsIn o (entries_of xs ys) → IsIn o q)
      → AreRelated r (map in_whole_class xs) (map in_whole_class ys)
      → AreRelated q xs ys
  related_by q [] [] e more h = tt
  related_by q [] (p ∷ ys) e more h = absurd h
  related_by q (o ∷ xs) [] e more h = absurd h
  related_by q (o ∷ xs) (p ∷ ys) e more h =
      let all = entries_of xs ys in
      let class : o.0 ≡ p.0 = head_of e in
      let rest = related_by q xs ys (tail_of e) in
      by_bool (list_any (takes o) all)
      (λ a. (
        class,
        more (o.0, o.1, p.1)
            (rw a (found o p.1 all h.1 (related_in_whole xs ys h.2) a)),
        rest (λ t i. more t (rw a i)) h.2,
      ))
      (λ a. (
        class,
        more (o.0, o.1, p.1) (rw a (inl refl)),
        rest (λ t i. more t (rw a (inr i))) h.2,
      ))

-- ---- the law

pub same_in_each_mode : SameInEachMode
unfolding AreSame
same_in_each_mode mode ms ns same =
    let stop = stop_in mode in
    let xs = occurrences stop 0 ms in
    let ys = occurrences stop 0 ns in
    let related : AreRelated same.0 (map in_whole_class xs) (map in_whole_class ys) =
    rw (whole_occurrences stop 0 ms, whole_occurrences stop 0 ns) same.2.1 in (
      entries_of xs ys,
      entries_rename same.0 same.1 xs ys related,
      (
        same.2.0,
        related_by same.0 same.1 (entries_of xs ys) xs ys
            (firsts_alike stop (mode_is_told mode) 0 ms ns same.2.0) (λ o i. i) related,
      ),
    )
