-- The last two items of a list, moved to its start, and the first items, moved to its end.
use Rattle.std.proofs.Common.{◌≡◌, ℕ, ◌+◌, ◌-◌, ◌<◌, ◌≤◌, suc, List, [], ◌∷◌, ◌++◌, length, take}
use Rattle.std.proofs.Common.{drop, get_or, set, refl, sym, ap, ap₂, ◌∙◌, arith, append-nil}
use Rattle.std.proofs.Common.{drop-cons}
use Rattle.std.proofs.lemmas.List.{take_all, take-append-le, length-drop}
use Rattle.std.proofs.Math.ListN.{drop_of_length-le}
use Rattle.std.specs.List.{copy_within}

first_two : {X : Type 0} (xs ys : List X) (a b : X) → 2 ≤ length xs
    → set (set (take 2 xs ++ ys) 0 a) 1 b ≡ a ∷ b ∷ ys
first_two [] ys a b some = absurd (omega (arith, some))
first_two (x ∷ []) ys a b some = absurd (omega (arith, some))
first_two (x ∷ y ∷ xs) ys a b some = refl

last_two : {X : Type 0} (xs : List X) (mid : ℕ) (d : X) → mid + 2 ≡ length xs
    → drop mid xs ≡ get_or xs mid d ∷ get_or xs (mid + 1) d ∷ []
last_two xs mid d long =
    let one : mid < length xs = omega (arith, long) in
    let two : suc mid < length xs = omega (arith, long) in
    let end : length xs ≤ suc (suc mid) = omega (arith, long) in
    let next : suc mid ≡ mid + 1 = omega arith in
    drop-cons xs mid d one
    ∙ ap (λ ys. get_or xs mid d ∷ ys) (drop-cons xs (suc mid) d two
    ∙ ap₂ (λ i ys. get_or xs i d ∷ ys) next (drop_of_length-le xs end))

copied : {X : Type 0} (xs : List X) (mid : ℕ) → mid + 2 ≡ length xs
    → copy_within xs 0 mid 2 ≡ take 2 xs ++ take mid xs
copied xs mid long =
    let same : mid - 0 ≡ mid = omega arith in
    let end : length xs ≤ 2 + mid = omega (arith, long) in
    ap (λ n. (take 2 xs ++ take n xs) ++ drop (2 + n) xs) same
    ∙ ap (λ ys. (take 2 xs ++ take mid xs) ++ ys) (drop_of_length-le xs end)
    ∙ append-nil (take 2 xs ++ take mid xs)

pub last_moved : {X : Type 0} (xs : List X) (mid : ℕ) (d : X) → mid + 2 ≡ length xs
    → set (set (copy_within xs 0 mid 2) 0 (get_or xs mid d)) 1 (get_or xs (mid + 1) d)
    ≡ drop mid xs ++ take mid xs
last_moved xs mid d long =
    let a = get_or xs mid d in
    let b = get_or xs (mid + 1) d in
    let some : 2 ≤ length xs = omega (arith, long) in
    ap (λ ys. set (set ys 0 a) 1 b) (copied xs mid long)
    ∙ first_two xs (take mid xs) a b some
    ∙ sym (ap (λ ys. ys ++ take mid xs) (last_two xs mid d long))

moved_down : {X : Type 0} (xs : List X) (mid : ℕ) → copy_within xs mid (length xs) 0
    ≡ drop mid xs ++ drop (0 + (length xs - mid)) xs
moved_down xs mid =
    let short : length (drop mid xs) ≤ length xs - mid =
    omega (arith, length-drop mid xs) in
    ap (λ ys. ys ++ drop (0 + (length xs - mid)) xs)
    (take_all (length xs - mid) (drop mid xs) short)

pub front_moved : {X : Type 0} (xs : List X) (mid rest : ℕ) → rest ≡ length xs - mid
    → take rest (copy_within xs mid (length xs) 0) ++ take mid xs ≡ drop mid xs ++ take mid xs
front_moved xs mid rest is =
    let long : rest ≤ length (drop mid xs) = omega (arith, is, length-drop mid xs) in
    let all : length (drop mid xs) ≤ rest = omega (arith, is, length-drop mid xs) in
    ap (λ ys. take rest ys ++ take mid xs) (moved_down xs mid)
    ∙ ap (λ ys. ys ++ take mid xs)
    (take-append-le rest (drop mid xs) (drop (0 + (length xs - mid)) xs) long
    ∙ take_all rest (drop mid xs) all)
