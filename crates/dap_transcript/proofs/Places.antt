-- Places in lists.
use Rattle.std.proofs.Common.{◌≡◌, ℕ, zero, suc, ◌<◌, List, [], ◌∷◌, ◌++◌, map, length, take, drop}
use Rattle.std.proofs.Common.{get_or, false, true, Option, None, Some, refl, sym, ap, ap₂, arith}
use Rattle.std.proofs.Common.{◌∙◌}
use Rattle.std.specs.{Borrow.Bor, Option.option_copied, Prelude.slice_get, Slice.IsItemAt}

pub drop-0 : {X : Type 0} (xs : List X) → drop 0 xs ≡ xs
drop-0 [] = refl
drop-0 (x ∷ xs) = refl

pub open_there : {X : Type 0} (xs : List X) (k : ℕ) (x : X) → slice_get xs k ≡ Some x
    → drop k xs ≡ x ∷ drop (suc k) xs
open_there [] k x h = absurd (cc)
open_there (y ∷ xs) zero x h = let same : y ≡ x = cc in ap₂ (λ z zs. z ∷ zs) same (sym (drop-0 xs))
open_there (y ∷ xs) (suc k) x h = open_there xs k x h

pub taken_there : {X : Type 0} (xs : List X) (k : ℕ) (x : X) → slice_get xs k ≡ Some x
    → take (suc k) xs ≡ take k xs ++ x ∷ []
taken_there [] k x h = absurd (cc)
taken_there (y ∷ xs) zero x h = let same : y ≡ x = cc in ap (λ z. z ∷ []) same
taken_there (y ∷ xs) (suc k) x h = ap (λ zs. y ∷ zs) (taken_there xs k x h)

pub within_there : {X : Type 0} (xs : List X) (k : ℕ) (x : X) → slice_get xs k ≡ Some x
    → k < length xs
within_there [] k x h = absurd (cc)
within_there (y ∷ xs) zero x h = omega arith
within_there (y ∷ xs) (suc k) x h = omega (arith, within_there xs k x h)

pub take_and_drop : {X : Type 0} (k : ℕ) (xs : List X) → take k xs ++ drop k xs ≡ xs
take_and_drop zero xs = drop-0 xs
take_and_drop (suc k) [] = refl
take_and_drop (suc k) (x ∷ xs) = ap (λ ys. x ∷ ys) (take_and_drop k xs)

pub map_there : {X Y : Type 0} (f : X → Y) (xs : List X) (k : ℕ) (x : X) → k < length xs
    → x ≡ get_or xs k x → slice_get (map f xs) k ≡ Some (f x)
map_there f [] k x h is = absurd (omega arith)
map_there f (y ∷ xs) zero x h is = ap (λ z. Some (f z)) (sym is)
map_there f (y ∷ xs) (suc k) x h is = map_there f xs k x (omega arith) is

-- ---- the first element

pub head_there : {X : Type 0} (xs : List X) (r : Option (Bor X)) → IsItemAt xs 0 r
    → option_copied r ≡ slice_get xs 0
head_there [] None i = refl
head_there [] (Some x) i = absurd (omega (arith, i.3.0))
head_there (y ∷ xs) None i = absurd (let no : false ≡ true = i.2 (omega arith) in cc)
head_there (y ∷ xs) (Some x) i = ap Some i.1

pub split_first : {X : Type 0} (xs : List X) (x : X) → Some x ≡ slice_get xs 0
    → xs ≡ x ∷ drop 1 xs
split_first xs x h = sym (drop-0 xs) ∙ open_there xs 0 x (sym h)

pub is_empty : {X : Type 0} (xs : List X) → None ≡ slice_get xs 0 → xs ≡ []
is_empty [] h = refl
is_empty (x ∷ xs) h = absurd (cc)
