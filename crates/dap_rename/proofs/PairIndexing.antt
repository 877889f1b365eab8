-- The numbers of pairs seen one by one, and pairs found by class and both numbers.
use Rattle.std.proofs.Common.{◌≡◌, ℕ, suc, ◌+◌, ◌<◌, ℤ, Bool, true, false, cond, ◌&&◌, ◌||◌}
use Rattle.std.proofs.Common.{eqb, List, [], ◌∷◌, ◌++◌, length, take, get_or, Option, Some, None}
use Rattle.std.proofs.Common.{Result, Ok, Err, MatchOption, inl, inr, is_some, is_ok, not}
use Rattle.std.proofs.Common.{refl, sym, ◌∙◌, ap, ap₂, subst, arith, zero-add}
use Rattle.std.proofs.Common.{true≢false}
use Rattle.std.proofs.Math.Bool.{and_assoc, not-not}
use Rattle.std.proofs.lemmas.Bool.{cases_lt}
use Rattle.std.proofs.lemmas.Bool.Decides.{nat_tests}
use Rattle.std.proofs.lemmas.Cmp.{nat_cmp_total, int_cmp_total, on_total, then_total}
use Rattle.std.proofs.lemmas.List.{take_more, length-take-le}
use Rattle.std.proofs.lemmas.List.Folds.{list_any-append, list_any_at, list_any_none}
use Rattle.std.proofs.lemmas.List.Sorted.{list_any-IsPermutation, searchable_from_sorted}
use Rattle.std.specs.BTreeSet as sorted
use Rattle.std.specs.BTreeSet.{BTreeSet}
use Rattle.std.specs.Cmp.{IsTotalOrder}
use Rattle.std.specs.List.{list_any, range_with_len}
use Rattle.std.specs.List.Sorted.{IsPermutation, IsSortedByKey, IsBinarySearchResult}
use Rattle.std.specs.List.Sorted.{IsSearchInRange}
use Rattle.std.specs.Ordering.{is_eq, int_eq, nat_cmp, int_cmp, ordering_then}
use Rattle.std.specs.declared.cmp.Ordering.{Ordering}
use Rattle.std.specs.declared.cmp.Ordering.TheVariants.{Less, Equal, Greater}
use Rattle.dap_rename.specs.Carrying.{has_pair}
use Rattle.dap_rename.specs.Messages.{Class, same_class}
use Rattle.dap_rename.specs.PairIndex.{Key, key, key_cmp, HasNumbers, HasSeen, pair_key}
use Rattle.dap_rename.specs.PairIndex.{pair_key_cmp, pair_at, key_at, IsIndexOf}
use Rattle.dap_rename.specs.Pairs.{class_of, AreRenaming, MayFollow, PairFails, FailsFirst}
use Rattle.dap_rename.specs.Sorts.{sort_number}
use Rattle.dap_rename.specs.declared.pair.Pair.{Pair}
use Rattle.dap_rename.specs.declared.pair.PairFault.{PairFault}
use Rattle.dap_rename.specs.declared.pair_index.PairIndex.{PairIndex}
use Rattle.dap_rename.specs.declared.pair_index.SeenPairs.{SeenPairs}
use Rattle.dap_rename.proofs.PairFaults.{first_found, none_found}

-- ---- keys

then_test : (a b : Ordering) → is_eq (ordering_then a b) ≡ (is_eq a && is_eq b)
then_test Less b = refl
then_test Equal b = refl
then_test Greater b = refl

nat_test : (x y : ℕ) → is_eq (nat_cmp x y) ≡ eqb x y
nat_test x y = grind (arith, nat_tests)

-- a number of a class is found by its key
pub key_test : (c d : Class) (x y : ℤ)
    → is_eq (key_cmp (key c x) (key d y)) ≡ (same_class c d && int_eq x y)
key_test c d x y =
    let sorts = nat_cmp (sort_number c.0) (sort_number d.0) in
    let stops = nat_cmp c.1 d.1 in
    then_test (ordering_then sorts stops) (int_cmp x y)
    ∙ ap (λ b. b && int_eq x y) (then_test sorts stops
    ∙ ap₂ (λ a b. a && b) (nat_test (sort_number c.0) (sort_number d.0)) (nat_test c.1 d.1))

-- a pair of a class is found by its key
pub pair_test : (c d : Class) (x y u v : ℤ)
    → is_eq (pair_key_cmp (pair_key c x u) (pair_key d y v))
    ≡ (same_class c d && (int_eq x y && int_eq u v))
pair_test c d x y u v =
    then_test (key_cmp (key c x) (key d y)) (int_cmp u v)
    ∙ ap (λ b. b && int_eq u v) (key_test c d x y)
    ∙ and_assoc (same_class c d) (int_eq x y) (int_eq u v)

-- ---- the numbers of pairs on one side

module _ (set : BTreeSet Key) (side : Pair → ℤ) (ps : List Pair) (p : Pair)
    (h : HasNumbers set side ps) where
  -- the number of the pair is new to the set if and only if no earlier pair of its class has it
  pub was_there : (k : Key) (b : Bool) → k ≡ key (class_of p) (side p)
      → b ≡ not (sorted.contains key_cmp set k)
      → list_any (λ q. same_class (class_of q) (class_of p) && int_eq (side q) (side p)) ps ≡ not b
  was_there k b g e =
      sym (h (class_of p) (side p))
      ∙ ap (sorted.contains key_cmp set) (sym g)
      ∙ sym (not-not (sorted.contains key_cmp set k)) ∙ ap not (sym e)

  pub number_push : (k : Key) (new : BTreeSet Key) → k ≡ key (class_of p) (side p)
      → ((q : Key) → sorted.contains key_cmp new q
      ≡ cond (is_eq (key_cmp k q)) true (sorted.contains key_cmp set q))
      → HasNumbers new side (ps ++ p ∷ [])
  number_push k new g f c x =
      let t : Pair → Bool = λ q. same_class (class_of q) c && int_eq (side q) x in
      f (key c x)
      ∙ ap (λ b. cond b true (sorted.contains key_cmp set (key c x)))
      (ap (λ q. is_eq (key_cmp q (key c x))) g ∙ key_test (class_of p) c (side p) x)
      ∙ ap (cond (t p) true) (h c x)
      ∙ cond_or (t p) (list_any t ps)
      ∙ sym (list_any-append t ps (p ∷ []))
    where
      cond_or : (a b : Bool) → cond a true b ≡ (b || (a || false))
      cond_or true true = refl
      cond_or true false = refl
      cond_or false true = refl
      cond_or false false = refl

-- ---- one step of checking the pairs

pub nothing_seen : (seen : SeenPairs) → seen.taken.keys ≡ [] → seen.given.keys ≡ []
    → HasSeen seen []
nothing_seen seen h k = record { taken = λ c x. rw h refl; given = λ c x. rw k refl }

module _ (P Q : Type 0) (R : PairFault → Type 0) where
  first_of : (o : Option PairFault) → MatchOption o (P × Q) R → MatchOption o P R
  first_of None h = h.0
  first_of (Some f) h = h

  second_of : (o : Option PairFault) → MatchOption o (P × Q) R → is_some o ≡ false → Q
  second_of None h e = h.1
  second_of (Some f) h e = absurd (true≢false e)

-- what is known about the pair at a position after it was checked
abbrev pub Judged : SeenPairs → SeenPairs → ℕ → Pair → Option PairFault → Type 0
Judged old new place p o = (before : List Pair) → HasSeen old before → place ≡ suc (length before)
    → MatchOption o (MayFollow before p × HasSeen new (before ++ p ∷ [])) (PairFails before p)

module _ (old new : SeenPairs) (ps : List Pair) (k : ℕ) (d : Pair) (o : Option PairFault)
    (n : k < length ps) (h : HasSeen old (take k ps))
    (r : AreRenaming (take k ps))
    (j : Judged old new (k + 1) (get_or ps k d) o) where
  judged : MatchOption o (MayFollow (take k ps) (get_or ps k d)
      × HasSeen new (take k ps ++ get_or ps k d ∷ [])) (PairFails (take k ps) (get_or ps k d))
  judged = j (take k ps) h (omega (arith, n, length-take-le k ps (omega (arith, n))))

  pub fault_found : is_some o ≡ true → MatchOption o (AreRenaming ps) (FailsFirst ps)
  fault_found s = first_found ps k d o n r (first_of _ _ _ o judged) s

  pub next_seen : is_some o ≡ false
      → HasSeen new (take (k + 1) ps) × AreRenaming (take (k + 1) ps)
  next_seen s = (
    subst (HasSeen new) (sym (take_more ps k d n)) (second_of _ _ _ o judged s),
    none_found ps k d o n r (first_of _ _ _ o judged) s,
  )

-- ---- the index of pairs

-- a test passes for some pair if and only if it passes for the pair at some position
pub at_some_place : (t : Pair → Bool) (ps : List Pair)
    → list_any t ps ≡ list_any (λ k. t (pair_at ps k)) (range_with_len 0 (length ps))
at_some_place t ps = from_place ps 0 ps (λ k h. ap (pair_at ps) (sym (zero-add k)))
  where
    from_place : (qs : List Pair) (a : ℕ) (ps : List Pair)
        → ((k : ℕ) → k < length qs → pair_at qs k ≡ pair_at ps (a + k))
        → list_any t qs ≡ list_any (λ k. t (pair_at ps k)) (range_with_len a (length qs))
    from_place [] a ps h = refl
    from_place (q ∷ qs) a ps h =
        let here : q ≡ pair_at ps a = h 0 (omega arith) ∙ ap (pair_at ps) (omega arith) in
        let rest = from_place qs (a + 1) ps (λ k n. h (suc k) (omega (arith, n))
        ∙ ap (pair_at ps) (omega arith)) in
        ap₂ (λ b c. b || c) (ap t here) rest

pub places_sorted : (ps : List Pair) (i : PairIndex)
    → IsPermutation (range_with_len 0 (length ps)) i.places.items
    → IsSortedByKey (key_at ps) pair_key_cmp i.places.items → IsIndexOf ps i
places_sorted ps i h k =
    (λ t. at_some_place t ps ∙ list_any-IsPermutation (λ k. t (pair_at ps k)) _ _ h, k)

pair_key_total : IsTotalOrder pair_key_cmp
pair_key_total =
    then_total (on_total (λ (k : Key × ℤ). k.0) (then_total
    (on_total (λ (k : Key). k.0) (then_total (on_total (λ (k : ℕ × ℕ). k.0) nat_cmp_total)
    (on_total (λ (k : ℕ × ℕ). k.1) nat_cmp_total)))
    (on_total (λ (k : Key). k.1) int_cmp_total)))
    (on_total (λ (k : Key × ℤ). k.1) int_cmp_total)

-- a binary search by a key succeeds if and only if some position has the key
pub search_told : {K : Type 0} {R : K → K → Ordering} → IsTotalOrder R → (at : ℕ → K)
    (places : List ℕ) (k : K) → IsSortedByKey at R places → (r : Result ℕ ℕ)
    → IsSearchInRange r (length places) → IsBinarySearchResult (λ p. R (at p) k) places r
    → is_ok r ≡ list_any (λ p. is_eq (R (at p) k)) places
search_told {R = R} o at places k up (Ok i) n h =
    sym (list_any_at (λ p. is_eq (R (at p) k)) places i 0 n (ap is_eq (h 0)))
search_told {R = R} o at places k up (Err i) n h =
    let parted = h (searchable_from_sorted o at places k up) in
    sym (list_any_none (λ p. is_eq (R (at p) k)) places (λ j d l. elim (cases_lt j i) [
      | inl a ↦ ap is_eq (parted.0 j d (omega arith) a)
      | inr a ↦ ap is_eq (parted.1 j d a l)
    ]))

pub pair_found : (ps : List Pair) (i : PairIndex) (c : Class) (x y : ℤ) → IsIndexOf ps i
    → has_pair ps c x y
    ≡ list_any (λ k. is_eq (pair_key_cmp (key_at ps k) (pair_key c x y))) i.places.items
pair_found ps i c x y h =
    h.0 (λ p. same_class (class_of p) c && (int_eq p.from x && int_eq p.to y))
    ∙ any_alike i.places.items
  where
    any_alike : (places : List ℕ)
        → list_any (λ k. same_class (class_of (pair_at ps k)) c
        && (int_eq (pair_at ps k).from x && int_eq (pair_at ps k).to y)) places
        ≡ list_any (λ k. is_eq (pair_key_cmp (key_at ps k) (pair_key c x y))) places
    any_alike [] = refl
    any_alike (k ∷ places) =
        ap₂ (λ a b. a || b)
        (sym (pair_test (class_of (pair_at ps k)) c (pair_at ps k).from x (pair_at ps k).to y))
        (any_alike places)

pub index_tells : (ps : List Pair) (i : PairIndex) (c : Class) (x y : ℤ) → IsIndexOf ps i
    → (places : List ℕ) → places ≡ i.places.items → (r : Result ℕ ℕ)
    → IsSearchInRange r (length places)
    → IsBinarySearchResult (λ k. pair_key_cmp (key_at ps k) (pair_key c x y)) places r
    → is_ok r ≡ has_pair ps c x y
index_tells ps i c x y h places e r n reported =
    search_told pair_key_total (key_at ps) places (pair_key c x y)
    (subst (IsSortedByKey (key_at ps) pair_key_cmp) (sym e) h.1) r n reported
    ∙ ap (list_any (λ k. is_eq (pair_key_cmp (key_at ps k) (pair_key c x y)))) e
    ∙ sym (pair_found ps i c x y h)
