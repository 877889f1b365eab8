-- How the lists of the kinds grow.
use Rattle.std.proofs.Common.{◌≡◌, ℕ, ◌+◌, ◌<◌, ◌≤◌, ℤ, false, cond, List, [], ◌∷◌, ◌++◌, length}
use Rattle.std.proofs.Common.{take}
use Rattle.std.proofs.Common.{drop, get_or, refl, sym, ◌∙◌, ap, subst, arith, length-append}
use Rattle.std.proofs.Common.{take-append-drop}
use Rattle.std.proofs.Math.Seq.{take-length}
use Rattle.std.proofs.lemmas.List.{take-append-le, take_more}
use Rattle.std.specs.List.{list_any}
use Rattle.std.specs.Ordering.{int_eq}
use Rattle.dap_tree.specs.declared.sort.Sort.{Sort}
use Rattle.dap_rename.specs.Numbering.{add}
use Rattle.dap_rename.proofs.Additions.{by_bool}
use Rattle.dap_rename.specs.declared.tables.Tables.{Tables}
use Rattle.dap_rename.specs.Table.{place, has}
use Rattle.dap_rename.specs.Sorts.{EachSort, same_sort}
use Rattle.dap_rename.specs.Tables.{table_of, Lists, lists, counts, added, added_all, names_from}
use Rattle.dap_rename.specs.Tables.{Extends, AllExtend, Limits, limits, AllFit, SomeExceedsLimit}
use Rattle.dap_tree.proofs.Sorts.{told_same_sort}
use Rattle.dap_rename.proofs.AllSorts.{at_sort, each_sort, table_is, tables_equal}

pub added_all-push : (l : Lists) (is : List (Sort × ℤ)) (i : Sort × ℤ)
    → added_all l (is ++ i ∷ []) ≡ added (added_all l is) i.0 i.1
added_all-push l [] i = refl
added_all-push l (j ∷ is) i = added_all-push (added l j.0 j.1) is i

pub names_from-push : (l : Lists) (is : List (Sort × ℤ)) (i : Sort × ℤ)
    → names_from l (is ++ i ∷ [])
    ≡ names_from l is ++ place (table_of (added_all l is) i.0) i.1 ∷ []
names_from-push l [] i = refl
names_from-push l (j ∷ is) i =
    ap (λ t. place (table_of l j.0) j.1 ∷ t) (names_from-push (added l j.0 j.1) is i)

pub begins_refl : (t : List ℤ) → Extends t t
begins_refl t = (omega arith, take-length t)

pub begins-add : (t u : List ℤ) (x : ℤ) → Extends t u → Extends t (add u x)
begins-add t u x h =
    by_bool (list_any (int_eq x) u)
    (λ a. rw a h)
    (λ a. rw a (
      omega (arith, h.0, length-append u (x ∷ [])),
      take-append-le (length t) u (x ∷ []) h.0 ∙ h.1,
    ))

pub added_at : (l : Lists) (s : Sort) (x : ℤ) (r : Sort)
    → table_of (added l s x) r ≡ cond (same_sort r s) (add (table_of l r) x) (table_of l r)
added_at l s x r =
    table_is (λ t. cond (same_sort t s) (add (table_of l t) x) (table_of l t)) r

pub all_begin-added : (l m : Lists) (s : Sort) (x : ℤ) → AllExtend l m → AllExtend l (added m s x)
unfolding AllExtend
all_begin-added l m s x h r =
    subst (Extends (table_of l r)) (sym (added_at m s x r))
    (by_bool (same_sort r s) (λ a. rw a (begins-add (table_of l r) (table_of m r) x (h r)))
    (λ a. rw a (h r)))

pub all_begin-added_all : (l m : Lists) (is : List (Sort × ℤ)) → AllExtend l m
    → AllExtend l (added_all m is)
all_begin-added_all l m [] h = h
all_begin-added_all l m (i ∷ is) h =
    all_begin-added_all l (added m i.0 i.1) is (all_begin-added l m i.0 i.1 h)

pub all_begin : (l : Lists) (is : List (Sort × ℤ)) → AllExtend l (added_all l is)
unfolding AllExtend
all_begin l is =
    all_begin-added_all l l is (λ s. begins_refl (table_of l s))

pub grown_step : (l m n : Lists) (is : List (Sort × ℤ)) (k : ℕ) (d : Sort × ℤ) → k < length is
    → m ≡ added_all l (take k is) → n ≡ added m (get_or is k d).0 (get_or is k d).1
    → n ≡ added_all l (take (k + 1) is)
grown_step l m n is k d h e f = rw (take_more is k d h, added_all-push, ← e) f

pub named_step : (l m : Lists) (is : List (Sort × ℤ)) (k : ℕ) (d : Sort × ℤ) (v w : List ℤ) (x : ℤ)
    → k < length is → m ≡ added_all l (take k is) →
    v ≡ names_from l (take k is) → x ≡ place (table_of m (get_or is k d).0) (get_or is k d).1
    → w ≡ v ++ x ∷ [] → w ≡ names_from l (take (k + 1) is)
named_step l m is k d v w x h e f g q = rw (take_more is k d h, names_from-push, ← e, ← f, ← g) q

-- truncating a list to the length of its prefix yields the prefix
pub cut_back : (old new cut : List ℤ) (k : ℕ) → Extends old new → k ≡ length old → cut ≡ take k new
    → cut ≡ old
cut_back old new cut k h e f = f ∙ rw e h.1

-- ---- the lists of tables

module _ {T : Type 0} (numbers : T → List ℤ) where
  pub list_at : (t : Tables T) (s : Sort) → table_of (lists numbers t) s ≡ numbers (table_of t s)
  list_at t s = table_is (λ r. numbers (table_of t r)) s

  pub count_at : (t : Tables T) (n : Tables ℕ) (s : Sort) → n ≡ counts numbers t
      → table_of n s ≡ length (table_of (lists numbers t) s)
  count_at t n s e =
      ap (λ m. table_of m s) e ∙ table_is (λ r. length (numbers (table_of t r))) s
      ∙ sym (ap length (list_at t s))

  -- tables that have grown contain the numbers that they had
  pub counts_fit : (old new : Tables T) (n : Tables ℕ) → n ≡ counts numbers old
      → AllExtend (lists numbers old) (lists numbers new)
      → EachSort (λ s. table_of n s ≤ length (numbers (table_of new s)))
  unfolding AllExtend
  counts_fit old new n e h =
      each_sort (λ s. table_of n s ≤ length (numbers (table_of new s)))
      (λ s. omega (arith, count_at old n s e, (h s).0, ap length (list_at new s)))

  -- and truncated to these they are unchanged
  pub lists_cut : (old new cut : Tables T) (n : Tables ℕ) → n ≡ counts numbers old
      → AllExtend (lists numbers old) (lists numbers new)
      → EachSort (λ s. numbers (table_of cut s) ≡ take (table_of n s) (numbers (table_of new s)))
      → lists numbers cut ≡ lists numbers old
  unfolding AllExtend
  lists_cut old new cut n e h k =
      tables_equal (lists numbers cut) (lists numbers old)
      (λ s. cut_back (table_of (lists numbers old) s) (table_of (lists numbers new) s)
      (table_of (lists numbers cut) s) (table_of n s) (h s) (count_at old n s e)
      (list_at cut s
      ∙ at_sort (λ r. numbers (table_of cut r) ≡ take (table_of n r) (numbers (table_of new r))) k s
      ∙ ap (take (table_of n s)) (sym (list_at new s))))

-- ---- limits

pub limit_at : {T : Type 0} (limit : T → ℕ) (t : Tables T) (s : Sort)
    → table_of (limits limit t) s ≡ limit (table_of t s)
limit_at limit t s = table_is (λ r. limit (table_of t r)) s

pub fit_tables : {T : Type 0} (numbers : T → List ℤ) (limit : T → ℕ)
    → ((t : T) → length (numbers t) ≤ limit t) → (t : Tables T)
    → AllFit (limits limit t) (lists numbers t)
unfolding AllFit
fit_tables numbers limit h t s =
    omega (arith, h (table_of t s), ap length (list_at numbers t s), limit_at limit t s)

pub added_all-append : (l : Lists) (a b : List (Sort × ℤ))
    → added_all l (a ++ b) ≡ added_all (added_all l a) b
added_all-append l [] b = refl
added_all-append l (i ∷ a) b = added_all-append (added l i.0 i.1) a b

pub list_of-added : (l : Lists) (s : Sort) (x : ℤ)
    → table_of (added l s x) s ≡ add (table_of l s) x
list_of-added l s x =
    added_at l s x s
    ∙ ap (λ b. cond b (add (table_of l s) x) (table_of l s)) (told_same_sort s s refl)

pub longer : (l m : Lists) (s : Sort) → AllExtend l m → length (table_of l s)
    ≤ length (table_of m s)
unfolding AllExtend
longer l m s h = (h s).0

pub add-new : (t : List ℤ) (x : ℤ) → has t x ≡ false → length (add t x) ≡ length t + 1
add-new t x h = rw h (length-append t (x ∷ []))

-- a new number of a kind at its limit makes its list longer than the limit
pub over : (lim : Limits) (l : Lists) (is : List (Sort × ℤ)) (k : ℕ) (i : Sort × ℤ)
    → take (k + 1) is ≡ take k is ++ i ∷ []
    → has (table_of (added_all l (take k is)) i.0) i.1 ≡ false →
    table_of lim i.0 ≤ length (table_of (added_all l (take k is)) i.0)
    → SomeExceedsLimit lim (added_all l is)
over lim l is k i t new full =
    let m = added_all l (take k is) in
    let e : added_all l is ≡ added_all (added m i.0 i.1) (drop (k + 1) is) =
    ap (added_all l) (sym (take-append-drop (k + 1) is))
    ∙ added_all-append l (take (k + 1) is) (drop (k + 1) is)
    ∙ ap (λ a. added_all (added_all l a) (drop (k + 1) is)) t
    ∙ ap (λ a. added_all a (drop (k + 1) is)) (added_all-push l (take k is) i) in
    let a : length (table_of (added m i.0 i.1) i.0) ≡ length (table_of m i.0) + 1 =
    rw list_of-added (add-new (table_of m i.0) i.1 new) in
    let b = longer (added m i.0 i.1) (added_all (added m i.0 i.1) (drop (k + 1) is)) i.0
    (all_begin (added m i.0 i.1) (drop (k + 1) is)) in
    let c : table_of lim i.0
    < length (table_of (added_all (added m i.0 i.1) (drop (k + 1) is)) i.0) =
    omega (arith, a, b, full) in
    (i.0, rw e c)

pub over_step : (lim now : Limits) (l m : Lists) (is : List (Sort × ℤ)) (k : ℕ) (d : Sort × ℤ)
    → k < length is → m ≡ added_all l (take k is) → now ≡ lim →
    (has (table_of m (get_or is k d).0) (get_or is k d).1 ≡ false)
    × (table_of now (get_or is k d).0 ≤ length (table_of m (get_or is k d).0))
    → SomeExceedsLimit lim (added_all l is)
over_step lim now l m is k d h e f q =
    over lim l is k (get_or is k d) (take_more is k d h) (rw e at q.0) (rw (e, f) at q.1)
