-- Positions in a list.
use Rattle.std.proofs.Common.{◌≡◌, ℕ, suc, ◌<◌, pos, Bool, true, false, List, length, refl, ◌∙◌}
use Rattle.std.proofs.Common.{arith, MatchOption, Some, None, Option}
use Rattle.std.proofs.lemmas.Bool.{le-ltb}
use lib.Dec.{ltb}
use Rattle.std.specs.List.{list_any, position_or_len, position}
use Rattle.dap_rename.proofs.Additions.{by_bool, place_below, place_missing}

pub position-there : {X : Type 0} (p : X → Bool) (xs : List X) → list_any p xs ≡ true
    → position p xs ≡ Some (position_or_len p xs)
position-there p xs h =
    let l = place_below p xs h in
    let t : ltb (position_or_len p xs) (length xs) ≡ true = grind arith in
    rw t refl

pub position-missing : {X : Type 0} (p : X → Bool) (xs : List X) → list_any p xs ≡ false
    → position p xs ≡ None
position-missing p xs h =
    let l = place_missing p xs h in
    let t : ltb (position_or_len p xs) (length xs) ≡ false =
    le-ltb (position_or_len p xs) (length xs) (omega arith) in
    rw t refl

pub position_tells : {X : Type 0} (p : X → Bool) (xs : List X) (o : Option ℕ) → o ≡ position p xs →
    MatchOption o (list_any p xs ≡ false) (λ i. (list_any p xs ≡ true)
    × (pos (suc (position_or_len p xs)) ≡ pos (suc i)) × (i < length xs))
position_tells p xs o e =
    by_bool (list_any p xs)
    (λ h. let q : o
    ≡ Some (position_or_len p xs) =
    e ∙ position-there p xs h in rw q (h, refl, place_below p xs h))
    (λ h. let q : o ≡ None = e ∙ position-missing p xs h in rw q h)
