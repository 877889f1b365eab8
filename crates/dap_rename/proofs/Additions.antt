-- Lemmas about tables: lists to which a number is added if it is new.
use Rattle.std.proofs.Common.{◌≡◌, ℕ, zero, suc, ◌+◌, ◌<◌, ℤ, pos, Bool, true, false, cond, ◌||◌}
use Rattle.std.proofs.Common.{List, [], ◌∷◌, ◌++◌, length, refl, ◌∙◌, ap, arith, length-append}
use Rattle.std.specs.List.{list_any, position_or_len}
use Rattle.std.specs.Ordering.{int_eq}
use Rattle.std.proofs.lemmas.Bool.Decides.{Decides-int_eq}
use lib.Dec.{ltb}
use Rattle.std.proofs.lemmas.Bool.{ltb-true, ltb-false}
use Rattle.std.proofs.lemmas.List.Folds.{list_any-append}
use Rattle.dap_rename.specs.Numbering.{add, add_all, numbers, table}

pub by_bool : {P : Type 0} (b : Bool) → (b ≡ true → P) → (b ≡ false → P) → P
by_bool true f g = f refl
by_bool false f g = g refl

pub add_all-append : (t xs ys : List ℤ) → add_all t (xs ++ ys) ≡ add_all (add_all t xs) ys
add_all-append t [] ys = refl
add_all-append t (x ∷ xs) ys = add_all-append (add t x) xs ys

pub any-same : (y x : ℤ) (t : List ℤ) → int_eq y x ≡ true → list_any (int_eq x) t ≡ true
    → list_any (int_eq y) t ≡ true
any-same y x t e h = let q : y ≡ x = (Decides-int_eq y x).0 e in rw q h

pub any-add : (y x : ℤ) (t : List ℤ)
    → list_any (int_eq y) (add t x) ≡ (list_any (int_eq y) t || int_eq y x)
any-add y x t =
    by_bool (list_any (int_eq x) t)
    (λ h. by_bool (int_eq y x) (λ e. let q : list_any (int_eq y) t
    ≡ true = any-same y x t e h in rw (h, q) refl) (λ e. rw (h, e) (grind arith)))
    (λ h. rw (h, list_any-append) (grind arith))

pub numbers-append : {K : Type 0} (same : K → K → Bool) (c : K) (xs ys : List (K × ℤ))
    → numbers same c (xs ++ ys) ≡ numbers same c xs ++ numbers same c ys
numbers-append same c [] ys = refl
numbers-append same c (o ∷ xs) ys = grind (arith, numbers-append same c xs ys)

pub table-push : {K : Type 0} (same : K → K → Bool) (c : K) (os : List (K × ℤ)) (o : K × ℤ)
    → table same c (os ++ o ∷ []) ≡ cond (same c o.0) (add (table same c os) o.1) (table same c os)
unfolding table
table-push same c os o =
    rw (numbers-append, add_all-append) (by_bool (same c o.0) (λ h. rw h refl) (λ h. rw h refl))

pub at_end : {X : Type 0} (p : X → Bool) (xs ys : List X) → list_any p xs ≡ true
    → position_or_len p (xs ++ ys) ≡ position_or_len p xs
at_end p [] ys h = cc
at_end p (x ∷ xs) ys h = grind (arith, at_end p xs ys)

pub past_end : {X : Type 0} (p : X → Bool) (xs ys : List X) → list_any p xs ≡ false
    → position_or_len p (xs ++ ys) ≡ length xs + position_or_len p ys
past_end p [] ys h = omega arith
past_end p (x ∷ xs) ys h = grind (arith, past_end p xs ys)

pub place_below : {X : Type 0} (p : X → Bool) (xs : List X) → list_any p xs ≡ true
    → position_or_len p xs < length xs
place_below p [] h = cc
place_below p (x ∷ xs) h = grind (arith, place_below p xs)

pub place_missing : {X : Type 0} (p : X → Bool) (xs : List X) → list_any p xs ≡ false
    → position_or_len p xs ≡ length xs
place_missing p [] h = refl
place_missing p (x ∷ xs) h = grind (arith, place_missing p xs)

-- the table contains exactly the numbers
pub any-add_all : (y : ℤ) (t xs : List ℤ)
    → list_any (int_eq y) (add_all t xs) ≡ (list_any (int_eq y) t || list_any (int_eq y) xs)
any-add_all y t [] = grind arith
any-add_all y t (x ∷ xs) = rw (any-add_all y (add t x) xs, any-add y x t) (grind arith)

pub any-table : {K : Type 0} (same : K → K → Bool) (c : K) (os : List (K × ℤ)) (x : ℤ)
    → list_any (int_eq x) (table same c os) ≡ list_any (int_eq x) (numbers same c os)
unfolding table
any-table same c os x = any-add_all x [] (numbers same c os)

-- the numbers from 1 to k
abbrev pub up_to : ℕ → List ℤ
up_to zero = []
up_to (suc k) = up_to k ++ pos (suc k) ∷ []

pub length-up_to : (k : ℕ) → length (up_to k) ≡ k
length-up_to zero = refl
length-up_to (suc k) = omega (arith, length-append (up_to k) (pos (suc k) ∷ []), length-up_to k)

-- the position of a number in the list is the number itself
pub place_up_to : (k : ℕ) (x : ℤ) → list_any (int_eq x) (up_to k) ≡ true
    → x ≡ pos (suc (position_or_len (int_eq x) (up_to k)))
place_up_to zero x h = cc
place_up_to (suc k) x h =
    by_bool (list_any (int_eq x) (up_to k))
    (λ a. rw (at_end (int_eq x) (up_to k) (pos (suc k) ∷ []) a) (place_up_to k x a))
    (λ a. let last : int_eq x (pos (suc k))
    ≡ true = grind (arith, list_any-append (int_eq x) (up_to k) (pos (suc k) ∷ [])) in
    let e : x ≡ pos (suc k) = (Decides-int_eq x (pos (suc k))).0 last in
    rw (past_end (int_eq x) (up_to k) (pos (suc k) ∷ []) a, length-up_to k) (e
    ∙ ap (λ n. pos (suc n)) (rw last (omega arith))))

pub up_to-has : (k p : ℕ) → p < k → list_any (int_eq (pos (suc p))) (up_to k) ≡ true
up_to-has zero p h = absurd (omega arith)
up_to-has (suc k) p h =
    rw list_any-append (by_bool (ltb p k)
    (λ a. rw (up_to-has k p (ltb-true p k a)) refl)
    (λ a. let e : p ≡ k = omega (arith, ltb-false p k a) in
    let l : int_eq (pos (suc p)) (pos (suc k)) ≡ true =
    (Decides-int_eq (pos (suc p)) (pos (suc k))).1 (ap (λ n. pos (suc n)) e) in grind (arith)))
