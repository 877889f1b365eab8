-- Messages with declarations that keep their order while others move, for private clauses. Source:
-- own.
use Rattle.std.specs.Prelude.{◌≡◌, ℕ, suc, Bool, true, cond, List, [], ◌∷◌}
use Rattle.std.specs.List.{filter, slice_get}
use Rattle.std.specs.Option.{unwrap_or}

-- The flag at a place, which is set if there is none.
abbrev pub flag_at : List Bool → ℕ → Bool
flag_at flags place = unwrap_or (slice_get flags place) true

-- The places, counted from `place`, of the flags that are set.
abbrev pub set_from : ℕ → List Bool → List ℕ
set_from place [] = []
set_from place (flag ∷ flags) =
    cond flag (place ∷ set_from (suc place) flags) (set_from (suc place) flags)

-- The list contains each place whose flag is set once, in their order.
abbrev pub KeepsRuled : List Bool → List ℕ → Type 0
KeepsRuled flags places = filter (flag_at flags) places ≡ set_from 0 flags
