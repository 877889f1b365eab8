-- The branch that a comparison of two names selects.
use Rattle.std.proofs.Common.{◌≡◌, ℕ, true, false, List, Ordering, Less, Equal, Greater, nat_cmp}
use Rattle.std.proofs.Common.{refl, ◌∙◌, is_eq}
use Rattle.std.proofs.lemmas.Map.Text.{is_eq-slice_cmp}
use Rattle.std.proofs.lemmas.Slice.Eq.{bytes_eq-Decides}
use Rattle.std.specs.Cmp.Lexicographic.{slice_cmp}
use Rattle.std.specs.Ordering.{match_ordering}

pub itself : (k : List ℕ) → is_eq (slice_cmp nat_cmp k k) ≡ true
itself k = is_eq-slice_cmp k k ∙ (bytes_eq-Decides k k).1 refl

pub equal_at : {X : Type 0} (o : Ordering) (a b : X) → is_eq o ≡ true → match_ordering o a b a ≡ b
equal_at Less a b h = cc
equal_at Equal a b h = refl
equal_at Greater a b h = cc

pub other_at : {X : Type 0} (o : Ordering) (a b : X) → is_eq o ≡ false → match_ordering o a b a ≡ a
other_at Less a b h = refl
other_at Equal a b h = cc
other_at Greater a b h = refl
