-- Earlier values, from the oldest on. Source: own.
use Rattle.std.specs.Prelude.{◌≤◌, ◌⊎◌, ℕ, zero, suc, List, [], ◌∷◌, drop, length}
use mathlib.Core.Logic.{inr}
use Rattle.std.proofs.Common.{arith}

-- One of these values satisfies P.
abbrev pub OneOf : {X : Type 0} → (X → Type 0) → List X → Type 0
OneOf P [] = ⊥
OneOf P (x ∷ xs) = P x ⊎ OneOf P xs

-- No value is there since the last one.
pub none_since : {X : Type 0} (P : X → Type 0) (past : List X) → OneOf P (drop (length past) past)
    → ⊥
none_since P [] one = one
none_since P (earlier ∷ past) one = none_since P past one

-- What was there since a later moment was there since an earlier one.
pub since_earlier : {X : Type 0} (P : X → Type 0) (t u : ℕ) (past : List X) → t ≤ u
    → OneOf P (drop u past) → OneOf P (drop t past)
since_earlier P zero zero past le one = one
since_earlier P zero (suc u) [] le one = one
since_earlier P zero (suc u) (earlier ∷ past) le one =
    inr (since_earlier P zero u past (omega arith) one)
since_earlier P (suc t) zero past le one = absurd (omega arith)
since_earlier P (suc t) (suc u) [] le one = one
since_earlier P (suc t) (suc u) (earlier ∷ past) le one =
    since_earlier P t u past (omega arith) one
