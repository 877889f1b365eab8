-- The keys of a hash index after one more number.
use Rattle.std.proofs.Common.{◌≡◌, ℕ, ◌+◌, ◌≤◌, ℤ, pos, Bool, true, false, cond, List, length, get_or}
use Rattle.std.proofs.Common.{Result, Ok, Err, IfOk, OnErr, ap, arith}
use Rattle.std.specs.List.{IsDistinct}
use Rattle.std.specs.Ordering.{int_eq}
use Rattle.std.proofs.lemmas.Bool.Decides.{Decides-int_eq}
use Rattle.std.proofs.lemmas.Map.Keys.{apart_from_distinct}
use Rattle.dap_rename.specs.Table.{AllDiffer}

pub differ_from : (ks : List ℤ) → IsDistinct int_eq ks → AllDiffer ks
differ_from ks distinct i j less within same =
    let apart : int_eq (get_or ks i (pos 0)) (get_or ks j (pos 0)) ≡ false =
    apart_from_distinct int_eq ks i j (pos 0) distinct less within in
    let equal : int_eq (get_or ks i (pos 0)) (get_or ks j (pos 0)) ≡ true =
    (Decides-int_eq (get_or ks i (pos 0)) (get_or ks j (pos 0))).1 same in
    absurd (cc)

one_more : (b : Bool) (m n limit : ℕ) → n ≡ m + cond b 1 0 → m ≤ limit → (m ≡ limit → ⊥)
    → n ≤ limit
one_more true m n limit e le ne = grind (arith, e, le, ne)
one_more false m n limit e le ne = omega (arith, e, le)

pub fits_after : {E : Type 0} (r : Result (ℕ × Bool) E) (old new : List ℤ) (limit : ℕ)
    → IfOk r (λ p. length new ≡ length old + cond p.1 1 0) → OnErr r (new ≡ old)
    → length old ≤ limit → (length old ≡ limit → ⊥) → length new ≤ limit
fits_after (Ok p) old new limit ok err le ne =
    one_more p.1 (length old) (length new) limit ok le ne
fits_after (Err e) old new limit ok err le ne = omega (arith, ap length err, le)
