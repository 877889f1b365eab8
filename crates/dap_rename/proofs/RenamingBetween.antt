-- Two lists with the same canonical numbers are related by the renaming that pairs their distinct
-- numbers, class by class and position by position.
use Rattle.std.proofs.Common.{◌≡◌, ℕ, suc, inl, inr, ℤ, pos, Bool, true, false, List, [], ◌∷◌, ◌++◌}
use Rattle.std.proofs.Common.{refl, sym, ◌∙◌, ap, subst, arith, append_assoc, true≢false}
use Rattle.std.specs.List.{list_any, position_or_len, AllByRecursion}
use Rattle.std.specs.Ordering.{int_eq}
use Rattle.std.specs.Bool.{Decides}
use Rattle.std.proofs.lemmas.Bool.Decides.{Decides-int_eq}
use Rattle.std.proofs.lemmas.List.Folds.{list_any-append}
use Rattle.dap_rename.specs.Numbering.{add, add_all, numbers, table, name, named}
use Rattle.dap_rename.specs.Renamings.{IsIn, AreApart, IsRenaming, AreRelated, pairs_of_class}
use Rattle.dap_rename.specs.Renamings.{pairs}
use Rattle.dap_rename.proofs.Additions.{by_bool, any-table, any-add, add_all-append, numbers-append}
use Rattle.dap_rename.proofs.Additions.{place_missing, past_end, at_end}
use Rattle.dap_rename.proofs.Lists.{head_of, tail_of, at_each, each-append, each-more}
use Rattle.dap_rename.proofs.RelatedLists.{Distinct, in_zip, in_pairs}

-- ---- the pairs are a renaming

pub distinct-push : (t : List ℤ) (x : ℤ) → Distinct t → list_any (int_eq x) t ≡ false
    → Distinct (t ++ x ∷ [])
distinct-push [] x d h = (tt, tt)
distinct-push (y ∷ t) x d h = (
  each-append _ t (x ∷ []) d.0
      ((λ e. true≢false (sym ((Decides-int_eq x y).1 (sym e)) ∙ grind arith)), tt),
  distinct-push t x d.1 (grind arith),
)

pub distinct-add : (t : List ℤ) (x : ℤ) → Distinct t → Distinct (add t x)
distinct-add t x d =
    by_bool (list_any (int_eq x) t) (λ a. rw a d) (λ a. rw a (distinct-push t x d a))

pub distinct-add_all : (t xs : List ℤ) → Distinct t → Distinct (add_all t xs)
distinct-add_all t [] d = d
distinct-add_all t (x ∷ xs) d = distinct-add_all (add t x) xs (distinct-add t x d)

pub each-add_all : (P : ℤ → Type 0) (t xs : List ℤ) → AllByRecursion P t → AllByRecursion P xs
    → AllByRecursion P (add_all t xs)
each-add_all P t [] h k = h
each-add_all P t (x ∷ xs) h k =
    each-add_all P (add t x) xs
    (by_bool (list_any (int_eq x) t) (λ a. rw a h)
    (λ a. rw a (each-append P t (x ∷ []) h (k.0, tt)))) k.1

pub each-zip : {K : Type 0} (P : K × ℤ × ℤ → Type 0) (c : K) (t u : List ℤ)
    → ((x y : ℤ) → IsIn x t → IsIn y u → P (c, x, y)) → AllByRecursion P (pairs_of_class c t u)
each-zip P c [] u h = tt
each-zip P c (x ∷ t) [] h = tt
each-zip P c (x ∷ t) (y ∷ u) h =
    (h x y (inl refl) (inl refl), each-zip P c t u (λ a b i j. h a b (inr i) (inr j)))

module _ {K : Type 0} (IsId : K × ℤ → Type 0) where
  pub zip_renaming : (c : K) (t u : List ℤ) → Distinct t → Distinct u
      → AllByRecursion (λ x. IsId (c, x)) t → AllByRecursion (λ y. IsId (c, y)) u
      → IsRenaming IsId (pairs_of_class c t u)
  zip_renaming c [] u d e h k = tt
  zip_renaming c (x ∷ t) [] d e h k = tt
  zip_renaming c (x ∷ t) (y ∷ u) d e h k = (
    (h.0, k.0),
    each-zip (AreApart (c, x, y)) c t u
        (λ a b i j s. (at_each (λ v. x ≡ v → ⊥) a t d.0 i, at_each (λ v. y ≡ v → ⊥) b u e.0 j)),
    zip_renaming c t u d.1 e.1 h.1 k.1,
  )

  pub append_renaming : (r s : List (K × ℤ × ℤ)) → IsRenaming IsId r → IsRenaming IsId s
      → AllByRecursion (λ p. AllByRecursion (AreApart p) s) r → IsRenaming IsId (r ++ s)
  append_renaming [] s h k a = k
  append_renaming (p ∷ r) s h k a =
      (h.0, each-append (AreApart p) r s h.1 a.0, append_renaming r s h.2 k a.1)

module _ {K : Type 0} (same : K → K → Bool) (decides : (a b : K)
    → Decides (same a b) (a ≡ b)) (IsId : K × ℤ → Type 0) where
  pub each-numbers : (c : K) (os : List (K × ℤ)) → AllByRecursion IsId os
      → AllByRecursion (λ x. IsId (c, x)) (numbers same c os)
  each-numbers c [] h = tt
  each-numbers c (o ∷ os) h =
      by_bool (same c o.0)
      (λ s. let q : c
      ≡ o.0 = (decides c o.0).0 s in let g : IsId (c, o.1) =
      rw q h.0 in rw s (g, each-numbers c os h.1))
      (λ s. rw s (each-numbers c os h.1))

  pub each-pairs : (c : K) (cs : List K) (xs ys : List (K × ℤ)) → AllByRecursion (λ d. c ≡ d → ⊥) cs
      → AllByRecursion (λ p. c ≡ p.0 → ⊥) (pairs same cs xs ys)
  each-pairs c [] xs ys h = tt
  each-pairs c (d ∷ cs) xs ys h =
      each-append _ (pairs_of_class d (table same d xs) (table same d ys)) _ (each-zip (λ p. c ≡ p.0
      → ⊥) d _ _ (λ x y i j. h.0)) (each-pairs c cs xs ys h.1)

  pub pairs_renaming : (cs : List K) (xs ys : List (K × ℤ)) → Distinct cs → AllByRecursion IsId xs
      → AllByRecursion IsId ys → IsRenaming IsId (pairs same cs xs ys)
  unfolding table
  pairs_renaming [] xs ys d h k = tt
  pairs_renaming (c ∷ cs) xs ys d h k =
      append_renaming IsId (pairs_of_class c (table same c xs) (table same c ys))
      (pairs same cs xs ys)
      (zip_renaming IsId c (table same c xs) (table same c ys)
      (distinct-add_all [] (numbers same c xs) tt) (distinct-add_all [] (numbers same c ys) tt)
      (each-add_all (λ x. IsId (c, x)) [] (numbers same c xs) tt (each-numbers c xs h))
      (each-add_all (λ x. IsId (c, x)) [] (numbers same c ys) tt (each-numbers c ys k)))
      (pairs_renaming cs xs ys d.1 h k)
      (each-zip _ c (table same c xs) (table same c ys)
      (λ x y i j. each-more _ _ (pairs same cs xs ys) (λ p n s. absurd (n s))
      (each-pairs c cs xs ys d.0)))

-- ---- the pairs relate the lists

pub keeps-add : (t : List ℤ) (x y : ℤ) → list_any (int_eq x) t ≡ true
    → position_or_len (int_eq x) (add t y) ≡ position_or_len (int_eq x) t
keeps-add t x y h =
    by_bool (list_any (int_eq y) t) (λ a. rw a refl) (λ a. rw a (at_end (int_eq x) t (y ∷ []) h))

pub keeps-add_all : (t ys : List ℤ) (x : ℤ) → list_any (int_eq x) t ≡ true
    → position_or_len (int_eq x) (add_all t ys) ≡ position_or_len (int_eq x) t
keeps-add_all t [] x h = refl
keeps-add_all t (y ∷ ys) x h =
    keeps-add_all (add t y) ys x (rw any-add (grind arith)) ∙ keeps-add t x y h

-- a number keeps the position at which it was added
pub place-add : (t : List ℤ) (x : ℤ)
    → position_or_len (int_eq x) (add t x) ≡ position_or_len (int_eq x) t
place-add t x =
    by_bool (list_any (int_eq x) t)
    (λ a. rw a refl)
    (λ a. let e : int_eq x x ≡ true = (Decides-int_eq x x).1 refl in
    rw (a, past_end (int_eq x) t (x ∷ []) a, place_missing (int_eq x) t a, e) (omega arith))

pub pos_suc : (a b : ℕ) → pos (suc a) ≡ pos (suc b) → a ≡ b
pos_suc a b h = cc

module _ {K : Type 0} (same : K → K → Bool) (decides : (a b : K) → Decides (same a b) (a ≡ b)) where
  pub table-split : (e os : List (K × ℤ)) (o : K × ℤ)
      → table same o.0 (e ++ o ∷ os) ≡ add_all (add (table same o.0 e) o.1) (numbers same o.0 os)
  unfolding table
  table-split e os o =
      let s : same o.0 o.0 ≡ true = (decides o.0 o.0).1 refl in
      rw (numbers-append, s, add_all-append) refl

  pub settled : (e os : List (K × ℤ)) (o : K × ℤ)
      → position_or_len (int_eq o.1) (table same o.0 (e ++ o ∷ os))
      ≡ position_or_len (int_eq o.1) (table same o.0 e)
  settled e os o =
      let s : int_eq o.1 o.1 ≡ true = (Decides-int_eq o.1 o.1).1 refl in
      rw table-split
      (keeps-add_all (add (table same o.0 e) o.1) (numbers same o.0 os) o.1
      (rw any-add (grind arith)) ∙ place-add (table same o.0 e) o.1)

  pub there : (e os : List (K × ℤ)) (o : K × ℤ)
      → list_any (int_eq o.1) (table same o.0 (e ++ o ∷ os)) ≡ true
  there e os o =
      let s : same o.0 o.0 ≡ true = (decides o.0 o.0).1 refl in
      let i : int_eq o.1 o.1 ≡ true = (Decides-int_eq o.1 o.1).1 refl in
      rw (any-table, numbers-append, s, list_any-append) (grind arith)

  pub paired : (XS YS e d xs ys : List (K × ℤ)) (a b : K × ℤ) → XS ≡ e ++ a ∷ xs → YS ≡ d ++ b ∷ ys
      → a.0 ≡ b.0 → name same e a ≡ name same d b →
      IsIn (a.0, a.1, b.1) (pairs_of_class a.0 (table same a.0 XS) (table same a.0 YS))
  unfolding name
  paired XS YS e d xs ys a b p q k n =
      let m = pos_suc (position_or_len (int_eq a.1) (table same a.0 e))
      (position_or_len (int_eq b.1) (table same b.0 d)) n in
      let f : K → Type 0 = λ c. list_any (int_eq b.1) (table same c YS) ≡ true in
      let g : K → Type 0 =
      λ c. position_or_len (int_eq a.1) (table same a.0 XS)
      ≡ position_or_len (int_eq b.1) (table same c YS) in
      in_zip a.0 a.1 b.1 (table same a.0 XS) (table same a.0 YS)
      (rw p (there e xs a))
      (subst f (sym k) (rw q (there d ys b)))
      (subst g (sym k) (rw (p, q, settled e xs a, settled d ys b) m))

  pub related_by_pairs : (cs : List K) (XS YS e d xs ys : List (K × ℤ))
      → AllByRecursion (λ o. IsIn o.0 cs) xs → XS ≡ e ++ xs → YS ≡ d ++ ys
      → named same e xs ≡ named same d ys → AreRelated (pairs same cs XS YS) xs ys
  related_by_pairs cs XS YS e d [] [] all p q h = tt
  related_by_pairs cs XS YS e d [] (b ∷ ys) all p q h = absurd cc
  related_by_pairs cs XS YS e d (a ∷ xs) [] all p q h = absurd cc
  related_by_pairs cs XS YS e d (a ∷ xs) (b ∷ ys) all p q h =
      let k : a.0 ≡ b.0 = ap (λ (t : K × ℤ). t.0) (head_of h) in
      let n : name same e a ≡ name same d b = ap (λ (t : K × ℤ). t.1) (head_of h) in (
        k,
        in_pairs same a.0 (a.0, a.1, b.1) cs XS YS all.0 (paired XS YS e d xs ys a b p q k n),
        related_by_pairs cs XS YS (e ++ a ∷ []) (d ++ b ∷ []) xs ys all.1 (p
            ∙ sym (append_assoc e (a ∷ []) xs)) (q ∙ sym (append_assoc d (b ∷ []) ys)) (tail_of h),
      )
