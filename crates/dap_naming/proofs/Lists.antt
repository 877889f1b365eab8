-- Lemmas about truth values, and about lists of any type: positions, elements, and maps.
use Rattle.std.proofs.Common.{◌≡◌, ℕ, zero, suc, ◌<◌, ◌≤◌, Bool, true, false, ◌&&◌, List, []}
use Rattle.std.proofs.Common.{◌∷◌, ◌++◌, length, get_or, take, drop, refl, ap, sym, ◌∙◌, arith}
use Rattle.std.specs.List.{list_any, position_or_len, AllByRecursion}
use Rattle.std.proofs.Math.Seq.{take-append_seam, drop-append_seam}

pub by_bool : {P : Type 0} (b : Bool) → (b ≡ true → P) → (b ≡ false → P) → P
by_bool true f g = f refl
by_bool false f g = g refl

pub first_of_both : (a b : Bool) → (a && b) ≡ true → a ≡ true
first_of_both true b h = refl
first_of_both false b h = h

pub second_of_both : (a b : Bool) → (a && b) ≡ true → b ≡ true
second_of_both true b h = h
second_of_both false b h = absurd cc

pub head_of : {X : Type 0} {x y : X} {xs ys : List X} → ◌≡◌ {A = List X} (x ∷ xs) (y ∷ ys) → x ≡ y
head_of h = cc

pub tail_of : {X : Type 0} {x y : X} {xs ys : List X} → ◌≡◌ {A = List X} (x ∷ xs) (y ∷ ys) → xs ≡ ys
tail_of h = cc

pub same_cons : {X : Type 0} (a b : X) (xs ys : List X) → a ≡ b → xs ≡ ys
    → ◌≡◌ {A = List X} (a ∷ xs) (b ∷ ys)
same_cons a b xs ys e f = rw (e, f) refl

-- ---- positions

pub at_end : {X : Type 0} (p : X → Bool) (xs ys : List X) → list_any p xs ≡ true
    → position_or_len p (xs ++ ys) ≡ position_or_len p xs
at_end p [] ys h = cc
at_end p (x ∷ xs) ys h = grind (arith, at_end p xs ys)

pub place_below : {X : Type 0} (p : X → Bool) (xs : List X) → list_any p xs ≡ true
    → position_or_len p xs < length xs
place_below p [] h = cc
place_below p (x ∷ xs) h = grind (arith, place_below p xs)

pub place_within : {X : Type 0} (p : X → Bool) (xs : List X) → position_or_len p xs ≤ length xs
place_within p [] = omega arith
place_within p (x ∷ xs) = grind (arith, place_within p xs)

-- ---- each element

pub each-append : {X : Type 0} (P : X → Type 0) (xs ys : List X) → AllByRecursion P xs
    → AllByRecursion P ys → AllByRecursion P (xs ++ ys)
each-append P [] ys h k = k
each-append P (x ∷ xs) ys h k = (h.0, each-append P xs ys h.1 k)

pub each-more : {X : Type 0} (P Q : X → Type 0) (xs : List X) → ((x : X) → P x → Q x)
    → AllByRecursion P xs → AllByRecursion Q xs
each-more P Q [] f h = tt
each-more P Q (x ∷ xs) f h = (f x h.0, each-more P Q xs f h.1)

pub at_index : {X : Type 0} (P : X → Type 0) (xs : List X) (k : ℕ) (d : X) → AllByRecursion P xs
    → k < length xs → P (get_or xs k d)
at_index P [] k d h l = absurd (omega arith)
at_index P (x ∷ xs) zero d h l = h.0
at_index P (x ∷ xs) (suc k) d h l = at_index P xs k d h.1 (omega arith)

-- ---- equal lists of two parts

pub front_of : {X : Type 0} (a b c d : List X) → length a ≡ length c → a ++ b ≡ c ++ d → a ≡ c
front_of a b c d n e =
    sym (take-append_seam a b)
    ∙ (ap (take (length a)) e ∙ (ap (λ k. take k (c ++ d)) n ∙ take-append_seam c d))

pub rest_of : {X : Type 0} (a b c d : List X) → length a ≡ length c → a ++ b ≡ c ++ d → b ≡ d
rest_of a b c d n e =
    sym (drop-append_seam a b)
    ∙ (ap (drop (length a)) e ∙ (ap (λ k. drop k (c ++ d)) n ∙ drop-append_seam c d))

pub same_append : {X : Type 0} (a b c d : List X) → a ≡ c → b ≡ d → a ++ b ≡ c ++ d
same_append a b c d e f = rw (e, f) refl
