-- Lemmas about renamings: two lists that a renaming relates have the same canonical numbers.
use Rattle.std.proofs.Common.{◌≡◌, suc, inl, inr, ℤ, pos, Bool, true, List, [], ◌∷◌, ◌++◌, refl}
use Rattle.std.proofs.Common.{sym, ◌∙◌, ap, arith, true≢false}
use Rattle.std.specs.List.{list_any, position_or_len, AllByRecursion}
use Rattle.std.specs.Ordering.{int_eq}
use Rattle.std.specs.Bool.{Decides}
use Rattle.std.proofs.lemmas.Bool.Decides.{Decides-int_eq, Decides-like, same_from_decides}
use Rattle.dap_rename.specs.Numbering.{add, table, name, named}
use Rattle.dap_rename.specs.Renamings.{IsIn, AreApart, IsRenaming, AreRelated, pairs_of_class}
use Rattle.dap_rename.specs.Renamings.{pairs}
use Rattle.dap_rename.proofs.Additions.{by_bool, table-push}
use Rattle.dap_rename.proofs.Lists.{at_each, in-left, in-right}

pub same_head : {K : Type 0} (c d : K) (x y : ℤ) (xs ys : List (K × ℤ)) → c ≡ d → x ≡ y → xs ≡ ys
    → ◌≡◌ {A = List (K × ℤ)} ((c, x) ∷ xs) ((d, y) ∷ ys)
same_head c d x y xs ys k h t = rw (k, h, t) refl

module _ {K : Type 0} (IsId : K × ℤ → Type 0) where
  -- an entry is determined by its class and one of its two numbers
  pub gives_one : (r : List (K × ℤ × ℤ)) → IsRenaming IsId r → (c : K) (x y z : ℤ)
      → IsIn (c, x, y) r → IsIn (c, x, z) r → y ≡ z
  gives_one [] h c x y z i j = absurd i
  gives_one (p ∷ r) h c x y z (inl e) (inl f) = ap (λ (t : K × ℤ × ℤ). t.2) (e ∙ sym f)
  gives_one (p ∷ r) h c x y z (inl e) (inr j) =
      absurd ((at_each (AreApart p) (c, x, z) r h.1 j (sym (ap (λ (t : K × ℤ × ℤ). t.0) e))).0
      (sym (ap (λ (t : K × ℤ × ℤ). t.1) e)))
  gives_one (p ∷ r) h c x y z (inr i) (inl f) =
      absurd ((at_each (AreApart p) (c, x, y) r h.1 i (sym (ap (λ (t : K × ℤ × ℤ). t.0) f))).0
      (sym (ap (λ (t : K × ℤ × ℤ). t.1) f)))
  gives_one (p ∷ r) h c x y z (inr i) (inr j) = gives_one r h.2 c x y z i j

  pub takes_one : (r : List (K × ℤ × ℤ)) → IsRenaming IsId r → (c : K) (x y z : ℤ)
      → IsIn (c, x, z) r → IsIn (c, y, z) r → x ≡ y
  takes_one [] h c x y z i j = absurd i
  takes_one (p ∷ r) h c x y z (inl e) (inl f) = ap (λ (t : K × ℤ × ℤ). t.1) (e ∙ sym f)
  takes_one (p ∷ r) h c x y z (inl e) (inr j) =
      absurd ((at_each (AreApart p) (c, y, z) r h.1 j (sym (ap (λ (t : K × ℤ × ℤ). t.0) e))).1
      (sym (ap (λ (t : K × ℤ × ℤ). t.2) e)))
  takes_one (p ∷ r) h c x y z (inr i) (inl f) =
      absurd ((at_each (AreApart p) (c, x, z) r h.1 i (sym (ap (λ (t : K × ℤ × ℤ). t.0) f))).1
      (sym (ap (λ (t : K × ℤ × ℤ). t.2) f)))
  takes_one (p ∷ r) h c x y z (inr i) (inr j) = takes_one r h.2 c x y z i j

  pub same_answer : (r : List (K × ℤ × ℤ)) → IsRenaming IsId r → (c : K) (x y u v : ℤ)
      → IsIn (c, x, u) r → IsIn (c, y, v) r → int_eq x y ≡ int_eq u v
  same_answer r h c x y u v i j =
      same_from_decides (int_eq x y) (int_eq u v) (Decides-int_eq x y)
      (Decides-like (int_eq u v) (λ e. takes_one r h c x y v (rw e at i) j)
      (λ e. gives_one r h c y u v (rw e at i) j) (Decides-int_eq u v))

-- an entry at each position
unfoldable pub Tied : {K : Type 0} → List (K × ℤ × ℤ) → K → List ℤ → List ℤ → Type 0
Tied r c [] [] = Unit {0}
Tied r c [] (y ∷ u) = ⊥
Tied r c (x ∷ t) [] = ⊥
Tied r c (x ∷ t) (y ∷ u) = IsIn (c, x, y) r × Tied r c t u

pub tied-push : {K : Type 0} (r : List (K × ℤ × ℤ)) (c : K) (t u : List ℤ) (x y : ℤ) → Tied r c t u
    → IsIn (c, x, y) r → Tied r c (t ++ x ∷ []) (u ++ y ∷ [])
unfolding Tied
tied-push r c [] [] x y h i = (i, tt)
tied-push r c [] (b ∷ u) x y h i = absurd h
tied-push r c (a ∷ t) [] x y h i = absurd h
tied-push r c (a ∷ t) (b ∷ u) x y h i = (h.0, tied-push r c t u x y h.1 i)

module _ {K : Type 0} (IsId : K × ℤ → Type 0) (r : List (K × ℤ × ℤ)) (ok : IsRenaming IsId r) where
  pub tied-any : (c : K) (x y : ℤ) (t u : List ℤ) → IsIn (c, x, y) r → Tied r c t u
      → list_any (int_eq x) t ≡ list_any (int_eq y) u
  unfolding Tied
  tied-any c x y [] [] i h = refl
  tied-any c x y [] (b ∷ u) i h = absurd h
  tied-any c x y (a ∷ t) [] i h = absurd h
  tied-any c x y (a ∷ t) (b ∷ u) i h =
      rw (same_answer IsId r ok c x a y b i h.0, tied-any c x y t u i h.1) refl

  pub tied-place : (c : K) (x y : ℤ) (t u : List ℤ) → IsIn (c, x, y) r → Tied r c t u
      → position_or_len (int_eq x) t ≡ position_or_len (int_eq y) u
  unfolding Tied
  tied-place c x y [] [] i h = refl
  tied-place c x y [] (b ∷ u) i h = absurd h
  tied-place c x y (a ∷ t) [] i h = absurd h
  tied-place c x y (a ∷ t) (b ∷ u) i h =
      rw (same_answer IsId r ok c x a y b i h.0, tied-place c x y t u i h.1) refl

  pub tied-add : (c : K) (x y : ℤ) (t u : List ℤ) → IsIn (c, x, y) r → Tied r c t u
      → Tied r c (add t x) (add u y)
  tied-add c x y t u i h =
      rw (tied-any c x y t u i h)
      (by_bool (list_any (int_eq y) u) (λ a. rw a h) (λ a. rw a (tied-push r c t u x y h i)))

module _ {K : Type 0} (same : K → K → Bool) (decides : (a b : K)
    → Decides (same a b) (a ≡ b)) (IsId : K × ℤ
    → Type 0) (r : List (K × ℤ × ℤ)) (ok : IsRenaming IsId r) where
  pub name-related : (d e : List (K × ℤ)) (o p : K × ℤ) → o.0 ≡ p.0
      → Tied r o.0 (table same o.0 d) (table same o.0 e) → IsIn (o.0, o.1, p.1) r
      → name same d o ≡ name same e p
  unfolding name
  name-related d e o p k t i =
      rw (← k) (ap (λ n. pos (suc n))
      (tied-place IsId r ok o.0 o.1 p.1 (table same o.0 d) (table same o.0 e) i t))

  pub tied-step : (c : K) (d e : List (K × ℤ)) (o p : K × ℤ) → o.0 ≡ p.0
      → Tied r c (table same c d) (table same c e) → IsIn (o.0, o.1, p.1) r →
      Tied r c (table same c (d ++ o ∷ [])) (table same c (e ++ p ∷ []))
  tied-step c d e o p k t i =
      rw (table-push same c d o, table-push same c e p, ← k)
      (by_bool (same c o.0)
      (λ s. let q : c ≡ o.0 = (decides c o.0).0 s in
      rw s (tied-add IsId r ok c o.1 p.1 (table same c d) (table same c e) (rw q i) t))
      (λ s. rw s t))

  -- lists that a renaming relates have the same canonical numbers
  pub named-related : (d e xs ys : List (K × ℤ))
      → ((c : K) → Tied r c (table same c d) (table same c e)) → AreRelated r xs ys
      → named same d xs ≡ named same e ys
  named-related d e [] [] t h = refl
  named-related d e [] (p ∷ ys) t h = absurd h
  named-related d e (o ∷ xs) [] t h = absurd h
  named-related d e (o ∷ xs) (p ∷ ys) t h =
      let k : o.0 ≡ p.0 = h.0 in
      let n = name-related d e o p k (t o.0) h.1 in
      let rest = named-related (d ++ o ∷ []) (e ++ p ∷ []) xs ys
      (λ c. tied-step c d e o p k (t c) h.1) h.2 in
      same_head o.0 p.0 _ _ _ _ k n rest

-- no element occurs twice
abbrev pub Distinct : {X : Type 0} → List X → Type 0
Distinct [] = Unit {0}
Distinct (x ∷ xs) = AllByRecursion (λ y. x ≡ y → ⊥) xs × Distinct xs

pub in_zip : {K : Type 0} (c : K) (x y : ℤ) (t u : List ℤ) → list_any (int_eq x) t ≡ true
    → list_any (int_eq y) u ≡ true →
    position_or_len (int_eq x) t ≡ position_or_len (int_eq y) u
    → IsIn (c, x, y) (pairs_of_class c t u)
in_zip c x y [] u h k e = absurd (true≢false (sym h))
in_zip c x y (a ∷ t) [] h k e = absurd (true≢false (sym k))
in_zip c x y (a ∷ t) (b ∷ u) h k e =
    by_bool (int_eq x a)
    (λ p. by_bool (int_eq y b)
    (λ q. inl (rw ((Decides-int_eq x a).0 p, (Decides-int_eq y b).0 q) refl))
    (λ q. absurd (grind (arith))))
    (λ p. by_bool (int_eq y b)
    (λ q. absurd (grind (arith)))
    (λ q. inr (in_zip c x y t u (grind arith) (grind arith) (grind arith))))

pub in_pairs : {K : Type 0} (same : K → K
    → Bool) (c : K) (p : K × ℤ × ℤ) (cs : List K) (xs ys : List (K × ℤ)) → IsIn c cs
    → IsIn p (pairs_of_class c (table same c xs) (table same c ys)) → IsIn p (pairs same cs xs ys)
in_pairs same c p [] xs ys i h = absurd i
in_pairs same c p (d ∷ cs) xs ys (inl e) h = in-left p _ _ (rw e at h)
in_pairs same c p (d ∷ cs) xs ys (inr i) h =
    in-right p (pairs_of_class d (table same d xs) (table same d ys)) _
    (in_pairs same c p cs xs ys i h)
