-- Tests of the elements of a list, by their models.
use Rattle.std.proofs.Common.{◌≡◌, Bool, List, [], ◌∷◌, map, refl, ap}
use Rattle.std.specs.Prelude.{◌||◌}
use Rattle.std.specs.List.{list_any}

-- One of the models passes a test if and only if one of the elements does.
pub any_mapped : {X Y : Type 0} (p : X → Bool) (f : Y → X) (ys : List Y)
    → list_any p (map f ys) ≡ list_any (λ y. p (f y)) ys
any_mapped p f [] = refl
any_mapped p f (y ∷ ys) = ap (λ b. p (f y) || b) (any_mapped p f ys)
