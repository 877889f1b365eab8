-- The canonical numbers of some classes depend only on the occurrences of these classes. Therefore
-- two lists have the same canonical numbers if they are equal in some classes and have the same
-- canonical numbers in the others.
use Rattle.std.proofs.Common.{◌≡◌, ℤ, Bool, true, false, not, List, [], ◌∷◌, ◌++◌, map, refl}
use Rattle.std.proofs.Common.{sym, ◌∙◌, ap, subst, append-nil}
use Rattle.std.specs.Bool.{Decides}
use Rattle.std.specs.List.{filter}
use Rattle.dap_rename.specs.Numbering.{numbers, table, name, named}
use Rattle.dap_rename.proofs.Additions.{by_bool}

module _ {K : Type 0} where
  -- the occurrences of the classes that pass the test
  abbrev pub part : (K → Bool) → List (K × ℤ) → List (K × ℤ)
  part p os = filter (λ o. p o.0) os

  abbrev pub firsts : List (K × ℤ) → List K
  firsts os = map (λ o. o.0) os

  pub part-append : (p : K → Bool) (os ps : List (K × ℤ))
      → part p (os ++ ps) ≡ part p os ++ part p ps
  part-append p [] ps = refl
  part-append p (o ∷ os) ps =
      by_bool (p o.0) (λ a. rw a (ap (λ t. o ∷ t) (part-append p os ps)))
      (λ a. rw a (part-append p os ps))

  -- a list is determined by its classes and its two parts
  pub parts_tell : (p : K → Bool) (xs ys : List (K × ℤ)) → firsts xs ≡ firsts ys
      → part p xs ≡ part p ys → part (λ c. not (p c)) xs ≡ part (λ c. not (p c)) ys → xs ≡ ys
  parts_tell p [] [] f a b = refl
  parts_tell p [] (y ∷ ys) f a b = absurd cc
  parts_tell p (x ∷ xs) [] f a b = absurd cc
  parts_tell p (x ∷ xs) (y ∷ ys) f a b =
      let one : x.0 ≡ y.0 = cc in
      let more : firsts xs ≡ firsts ys = cc in
      by_bool (p x.0)
      (λ h. let k : p y.0 ≡ true = subst (λ c. p c ≡ true) one h in
      let q = rw (h, k) at a in
      let r = rw (h, k) at b in
      let u : x ≡ y = cc in
      let v : part p xs ≡ part p ys = cc in
      let w = parts_tell p xs ys more v r in
      rw (u, w) refl)
      (λ h. let k : p y.0 ≡ false = subst (λ c. p c ≡ false) one h in
      let q = rw (h, k) at a in
      let r = rw (h, k) at b in
      let u : x ≡ y = cc in
      let v : part (λ c. not (p c)) xs ≡ part (λ c. not (p c)) ys = cc in
      let w = parts_tell p xs ys more q v in
      rw (u, w) refl)

  module _ (same : K → K → Bool) (decides : (a b : K) → Decides (same a b) (a ≡ b)) where
    numbers-part : (p : K → Bool) (c : K) (os : List (K × ℤ)) → p c ≡ true
        → numbers same c (part p os) ≡ numbers same c os
    numbers-part p c [] h = refl
    numbers-part p c (o ∷ os) h =
        by_bool (same c o.0)
        (λ s. let q : c ≡ o.0 = (decides c o.0).0 s in
        let k : p o.0 ≡ true = subst (λ d. p d ≡ true) q h in
        rw (k, s) (ap (λ t. o.1 ∷ t) (numbers-part p c os h)))
        (λ s. by_bool (p o.0) (λ k. rw (k, s) (numbers-part p c os h))
        (λ k. rw (k, s) (numbers-part p c os h)))

    name-part : (p : K → Bool) (e : List (K × ℤ)) (o : K × ℤ) → p o.0 ≡ true
        → name same e o ≡ name same (part p e) o
    unfolding name table
    name-part p e o h = rw (numbers-part p o.0 e h) refl

    pub named-part : (p : K → Bool) (e os : List (K × ℤ))
        → part p (named same e os) ≡ named same (part p e) (part p os)
    named-part p e [] = refl
    named-part p e (o ∷ os) =
        let rest = named-part p (e ++ o ∷ []) os in
        let front = part-append p e (o ∷ []) in
        by_bool (p o.0)
        (λ h. let n = name-part p e o h in
        rw (h, n) (ap (λ t. (o.0, name same (part p e) o) ∷ t)
        (rest ∙ ap (λ t. named same t (part p os)) (rw h at front))))
        (λ h. rw h (rest ∙ ap (λ t. named same t (part p os)) (rw (h, append-nil) at front)))

    firsts-named : (e os : List (K × ℤ)) → firsts (named same e os) ≡ firsts os
    firsts-named e [] = refl
    firsts-named e (o ∷ os) = ap (λ t. o.0 ∷ t) (firsts-named (e ++ o ∷ []) os)

    -- equal in the classes that pass the test, and with the same canonical numbers in the others
    pub names_of_parts : (p : K → Bool) (xs ys : List (K × ℤ)) → firsts xs ≡ firsts ys
        → part p xs ≡ part p ys
        → named same [] (part (λ c. not (p c)) xs) ≡ named same [] (part (λ c. not (p c)) ys)
        → named same [] xs ≡ named same [] ys
    names_of_parts p xs ys f a b =
        let other : K → Bool = λ c. not (p c) in
        parts_tell p (named same [] xs) (named same [] ys)
        (firsts-named [] xs ∙ f ∙ sym (firsts-named [] ys))
        (named-part p [] xs ∙ ap (named same []) a ∙ sym (named-part p [] ys))
        (named-part other [] xs ∙ b ∙ sym (named-part other [] ys))
