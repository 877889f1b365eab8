-- Lemmas about fresh lists and canonical numbers.
use Rattle.std.proofs.Common.{◌≡◌, ℕ, suc, ℤ, pos, Bool, true, false, List, [], ◌∷◌, ◌++◌, length}
use Rattle.std.proofs.Common.{refl, sym, ◌∙◌, ap, arith, append_assoc, append-nil, true≢false}
use Rattle.std.proofs.Common.{length-append}
use Rattle.std.specs.List.{list_any, position_or_len}
use Rattle.std.specs.Ordering.{int_eq}
use Rattle.std.specs.Bool.{Decides}
use Rattle.dap_rename.specs.Numbering.{add, numbers, table, name, named, IsFresh}
use Rattle.dap_rename.proofs.Additions.{by_bool, table-push, any-table, up_to, length-up_to}
use Rattle.dap_rename.proofs.Additions.{place_up_to, up_to-has, place_below, place_missing}

pub length-push : {X : Type 0} (t : List X) (x : X) → length (t ++ x ∷ []) ≡ suc (length t)
length-push t x = omega (arith, length-append t (x ∷ []))

pub none_next : (k : ℕ) → list_any (int_eq (pos (suc k))) (up_to k) ≡ false
none_next k =
    by_bool (list_any (int_eq (pos (suc k))) (up_to k))
    (λ h. let e = place_up_to k (pos (suc k)) h in let l = place_below (int_eq (pos (suc k)))
    (up_to k) h in
    let i : suc k ≡ suc (position_or_len (int_eq (pos (suc k))) (up_to k)) =
    cc in absurd (omega (arith, length-up_to k)))
    (λ h. h)

-- a canonical number is new if its number is new
pub add-name : (t : List ℤ) (x : ℤ)
    → add (up_to (length t)) (pos (suc (position_or_len (int_eq x) t))) ≡ up_to (length (add t x))
add-name t x =
    by_bool (list_any (int_eq x) t)
    (λ a. rw (a, up_to-has (length t) (position_or_len (int_eq x) t) (place_below (int_eq x) t a))
    refl)
    (λ a. rw (a, length-push t x, place_missing (int_eq x) t a, none_next (length t)) refl)

module _ {K : Type 0} (same : K → K → Bool) (decides : (a b : K) → Decides (same a b) (a ≡ b)) where
  -- the tables of the list contain the numbers from 1 up, in order
  unfoldable pub IsCounted : List (K × ℤ) → Type 0
  IsCounted os = (c : K) → table same c os ≡ up_to (length (table same c os))

  -- the condition of a fresh list for one occurrence
  abbrev pub NextIsFresh : List (K × ℤ) → K × ℤ → Type 0
  NextIsFresh e o = list_any (int_eq o.1) (numbers same o.0 e) ≡ false
      → o.1 ≡ pos (suc (length (table same o.0 e)))

  pub counted-push : (e : List (K × ℤ)) (o : K × ℤ) → IsCounted e → NextIsFresh e o
      → IsCounted (e ++ o ∷ [])
  unfolding IsCounted
  counted-push e o h n c =
      rw (table-push same c e o)
      (by_bool (same c o.0)
      (λ s. let q : c ≡ o.0 = (decides c o.0).0 s in
      rw s (by_bool (list_any (int_eq o.1) (table same c e))
      (λ a. rw a (h c))
      (λ a. let m : o.1
      ≡ pos (suc (length (table same c e))) =
      rw q (n (sym (any-table same o.0 e o.1) ∙ (rw q at a))) in
      rw (a, length-push (table same c e) o.1, m)
      (ap (λ t. t ++ pos (suc (length (table same c e))) ∷ []) (h c)))))
      (λ s. rw s (h c)))

  pub fresh-step : (e os : List (K × ℤ)) (o : K × ℤ) → IsFresh same (e ++ o ∷ os)
      → IsFresh same ((e ++ o ∷ []) ++ os)
  fresh-step e os o f = rw append_assoc f

  pub fresh-next : (e os : List (K × ℤ)) (o : K × ℤ) → IsFresh same (e ++ o ∷ os) → NextIsFresh e o
  unfolding IsFresh
  fresh-next e os o f = f e os o.0 o.1 refl

  -- in such a list the canonical number of a number is the number itself
  pub name-counted : (e : List (K × ℤ)) (o : K × ℤ) → IsCounted e → NextIsFresh e o
      → name same e o ≡ o.1
  unfolding IsCounted name
  name-counted e o h n =
      by_bool (list_any (int_eq o.1) (table same o.0 e))
      (λ a. let b : list_any (int_eq o.1) (up_to (length (table same o.0 e)))
      ≡ true = sym (ap (list_any (int_eq o.1)) (h o.0)) ∙ a in
      ap (λ t. pos (suc (position_or_len (int_eq o.1) t))) (h o.0)
      ∙ sym (place_up_to (length (table same o.0 e)) o.1 b))
      (λ a. ap (λ k. pos (suc k)) (place_missing (int_eq o.1) (table same o.0 e) a)
      ∙ sym (n (sym (any-table same o.0 e o.1) ∙ a)))

  -- canonical numbers do not change a fresh list
  pub named-fresh : (e os : List (K × ℤ)) → IsCounted e → IsFresh same (e ++ os)
      → named same e os ≡ os
  named-fresh e [] h f = refl
  named-fresh e (o ∷ os) h f =
      let n = fresh-next e os o f in
      let k = name-counted e o h n in
      let t = named-fresh (e ++ o ∷ []) os (counted-push e o h n) (fresh-step e os o f) in
      rw (k, t) refl

  -- the condition of a fresh list, from one occurrence to the next
  pub FreshFrom : List (K × ℤ) → List (K × ℤ) → Type 0
  FreshFrom e [] = Unit {0}
  FreshFrom e (o ∷ os) = NextIsFresh e o × FreshFrom (e ++ o ∷ []) os

  pub fresh_at : (e os before after : List (K × ℤ)) (o : K × ℤ) → FreshFrom e os
      → os ≡ before ++ o ∷ after → NextIsFresh (e ++ before) o
  unfolding FreshFrom
  fresh_at e [] [] after o f q = absurd cc
  fresh_at e [] (b ∷ before) after o f q = absurd cc
  fresh_at e (p ∷ os) [] after o f q = let r : p ≡ o = cc in rw (append-nil, ← r) f.0
  fresh_at e (p ∷ os) (b ∷ before) after o f q =
      let r : p ≡ b = cc in
      let t : os ≡ before ++ o ∷ after = cc in
      let h = fresh_at (e ++ p ∷ []) os before after o f.1 t in
      rw (← r) (rw append_assoc at h)

  pub fresh_from : (os : List (K × ℤ)) → FreshFrom [] os → IsFresh same os
  unfolding IsFresh
  fresh_from os f before after c x q = fresh_at [] os before after (c, x) f q

  -- the tables of the second list contain the numbers from 1 to the length of those of the first
  unfoldable pub Counts : List (K × ℤ) → List (K × ℤ) → Type 0
  Counts e d = (c : K) → table same c d ≡ up_to (length (table same c e))

  pub names-next : (e d : List (K × ℤ)) (o : K × ℤ) → Counts e d
      → NextIsFresh d (o.0, name same e o)
  unfolding Counts name
  names-next e d o h new =
      let T = table same o.0 e in
      by_bool (list_any (int_eq o.1) T)
      (λ a. let b = up_to-has (length T) (position_or_len (int_eq o.1) T)
      (place_below (int_eq o.1) T a) in
      absurd (true≢false (sym b ∙ sym (ap (list_any (int_eq (name same e o))) (h o.0))
      ∙ any-table same o.0 d (name same e o) ∙ new)))
      (λ a. ap (λ k. pos (suc k)) (place_missing (int_eq o.1) T a
      ∙ sym (ap length (h o.0) ∙ length-up_to (length T))))

  pub counts-push : (e d : List (K × ℤ)) (o : K × ℤ) → Counts e d
      → Counts (e ++ o ∷ []) (d ++ (o.0, name same e o) ∷ [])
  unfolding Counts name
  counts-push e d o h c =
      rw (table-push same c d (o.0, name same e o), table-push same c e o)
      (by_bool (same c o.0)
      (λ s. let q : c
      ≡ o.0 = (decides c o.0).0 s in rw (s, h c, q) (add-name (table same o.0 e) o.1))
      (λ s. rw s (h c)))

  pub named-fresh_from : (e d os : List (K × ℤ)) → Counts e d → FreshFrom d (named same e os)
  unfolding FreshFrom
  named-fresh_from e d [] h = tt
  named-fresh_from e d (o ∷ os) h = (
    names-next e d o h,
    named-fresh_from (e ++ o ∷ []) (d ++ (o.0, name same e o) ∷ []) os (counts-push e d o h),
  )

  -- a list of canonical numbers is fresh
  pub fresh_named : (os : List (K × ℤ)) → IsFresh same (named same [] os)
  unfolding Counts table
  fresh_named os = fresh_from (named same [] os) (named-fresh_from [] [] os (λ c. refl))
