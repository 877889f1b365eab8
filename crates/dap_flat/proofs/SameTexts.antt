-- Texts that are equal byte by byte.
use Rattle.std.proofs.Common.{◌≡◌, ℕ, ◌==◌, Bool, true, false, List, [], ◌∷◌, length, bytes_eq, refl}
use Rattle.std.proofs.Common.{ap, arith}
use Rattle.std.proofs.lemmas.Slice.Eq.{bytes_eq-Decides}

by_bool : (b : Bool) → (b ≡ true → ⊥) → false ≡ b
by_bool true h = absurd (h refl)
by_bool false h = refl

pub other_length : (xs ys : List ℕ) → (length xs ≡ length ys → ⊥) → false ≡ bytes_eq xs ys
other_length xs ys apart =
    by_bool (bytes_eq xs ys) (λ same. apart (ap length ((bytes_eq-Decides xs ys).0 same)))
