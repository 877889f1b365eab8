-- Lists.
use Rattle.std.proofs.Common.{◌≡◌, ℕ, ◌+◌, Bool, cond, List, [], ◌∷◌, map, refl}
use Rattle.std.specs.Prelude.{count_by, fold}

folded_mapped : {X Y : Type 0} (step : ℕ → Y → ℕ) (image : X → Y) (n : ℕ) (xs : List X)
    → fold step n (map image xs) ≡ fold (λ m x. step m (image x)) n xs
folded_mapped step image n [] = refl
folded_mapped step image n (x ∷ xs) = folded_mapped step image (step n (image x)) xs

-- The items of a mapped list that pass are the items whose images pass.
pub counted_mapped : {X Y : Type 0} (passes : Y → Bool) (image : X → Y) (xs : List X)
    → count_by passes (map image xs) ≡ count_by (λ x. passes (image x)) xs
counted_mapped passes image xs = folded_mapped (λ n y. n + cond (passes y) 1 0) image 0 xs
