-- Lemmas about lists of any type.
use Rattle.std.proofs.Common.{◌≡◌, inl, inr, List, [], ◌∷◌, ◌++◌, take, drop, length, map, refl}
use Rattle.std.proofs.Common.{sym, ◌∙◌, ap}
use Rattle.std.proofs.Math.Seq.{take-append_seam, drop-append_seam}
use Rattle.std.specs.List.{AllByRecursion}
use Rattle.dap_rename.specs.Renamings.{IsIn}

-- ---- equal lists

pub same_cons : {X : Type 0} (a b : X) (xs ys : List X) → a ≡ b → xs ≡ ys
    → ◌≡◌ {A = List X} (a ∷ xs) (b ∷ ys)
same_cons a b xs ys e f = rw (e, f) refl

pub head_of : {X : Type 0} {x y : X} {xs ys : List X} → ◌≡◌ {A = List X} (x ∷ xs) (y ∷ ys) → x ≡ y
head_of h = cc

pub tail_of : {X : Type 0} {x y : X} {xs ys : List X} → ◌≡◌ {A = List X} (x ∷ xs) (y ∷ ys) → xs ≡ ys
tail_of h = cc

pub front_told : {X : Type 0} (a b c d : List X) → length a ≡ length c → a ++ b ≡ c ++ d → a ≡ c
front_told a b c d n e =
    sym (take-append_seam a b)
    ∙ (ap (take (length a)) e ∙ (ap (λ k. take k (c ++ d)) n ∙ take-append_seam c d))

pub rest_told : {X : Type 0} (a b c d : List X) → length a ≡ length c → a ++ b ≡ c ++ d → b ≡ d
rest_told a b c d n e =
    sym (drop-append_seam a b)
    ∙ (ap (drop (length a)) e ∙ (ap (λ k. drop k (c ++ d)) n ∙ drop-append_seam c d))

-- ---- each element

pub at_each : {X : Type 0} (P : X → Type 0) (x : X) (xs : List X) → AllByRecursion P xs → IsIn x xs
    → P x
at_each P x [] h i = absurd i
at_each P x (y ∷ xs) h (inl e) = rw e h.0
at_each P x (y ∷ xs) h (inr i) = at_each P x xs h.1 i

pub each_of : {X : Type 0} (P : X → Type 0) (xs : List X) → ((x : X) → IsIn x xs → P x)
    → AllByRecursion P xs
each_of P [] h = tt
each_of P (x ∷ xs) h = (h x (inl refl), each_of P xs (λ y i. h y (inr i)))

pub each-append : {X : Type 0} (P : X → Type 0) (xs ys : List X) → AllByRecursion P xs
    → AllByRecursion P ys → AllByRecursion P (xs ++ ys)
each-append P [] ys h k = k
each-append P (x ∷ xs) ys h k = (h.0, each-append P xs ys h.1 k)

pub each-more : {X : Type 0} (P Q : X → Type 0) (xs : List X) → ((x : X) → P x → Q x)
    → AllByRecursion P xs → AllByRecursion Q xs
each-more P Q [] f h = tt
each-more P Q (x ∷ xs) f h = (f x h.0, each-more P Q xs f h.1)

pub each_left : {X : Type 0} (P : X → Type 0) (xs ys : List X) → AllByRecursion P (xs ++ ys)
    → AllByRecursion P xs
each_left P [] ys h = tt
each_left P (x ∷ xs) ys h = (h.0, each_left P xs ys h.1)

pub each_right : {X : Type 0} (P : X → Type 0) (xs ys : List X) → AllByRecursion P (xs ++ ys)
    → AllByRecursion P ys
each_right P [] ys h = h
each_right P (x ∷ xs) ys h = each_right P xs ys h.1

-- ---- an element of two lists

pub in-left : {X : Type 0} (p : X) (xs ys : List X) → IsIn p xs → IsIn p (xs ++ ys)
in-left p [] ys i = absurd i
in-left p (x ∷ xs) ys (inl e) = inl e
in-left p (x ∷ xs) ys (inr i) = inr (in-left p xs ys i)

pub in-right : {X : Type 0} (p : X) (xs ys : List X) → IsIn p ys → IsIn p (xs ++ ys)
in-right p [] ys i = i
in-right p (x ∷ xs) ys i = inr (in-right p xs ys i)

pub in-map : {X Y : Type 0} (f : X → Y) (x : X) (xs : List X) → IsIn x xs → IsIn (f x) (map f xs)
in-map f x [] i = absurd i
in-map f x (y ∷ xs) (inl e) = inl (ap f e)
in-map f x (y ∷ xs) (inr i) = inr (in-map f x xs i)
