use Rattle.std.proofs.Common.{◌≡◌, ◌∙◌, ℕ, ℤ, pos, negsuc, true, false, nat_abs, int_lt}
use Rattle.std.proofs.Common.{to_z, of_z, w64, ap, subst, arith}
use Rattle.std.specs.Int.{w128}
use Rattle.std.proofs.lemmas.Int.{to_z-of_z}
use Rattle.dap_tree.specs.Doc.{whole}
use Rattle.dap_tree.proofs.Writing.{negative_cast}
use Rattle.dap_flat.specs.Pieces.{leaf}
use Rattle.dap_flat.proofs.trees.whole_node.Goals as goal

unsigned_cast : (z : ℤ) (m : ℕ) → m ≡ nat_abs z → int_lt z (pos 0) ≡ false → pos m ≡ z
unsigned_cast (pos n) m same above = ap pos same
unsigned_cast (negsuc n) m same above = absurd (grind (arith, above))

pub returns-then-number-lt0 : goal.returns-then-number-lt0
returns-then-number-lt0 c =
    let n = c.args.number in
    let same : to_z w128 (of_z w128 n) ≡ n = to_z-of_z w128 n c.ranges.number in
    let below : int_lt n (pos 0) ≡ true =
    subst (λ z. int_lt z (pos 0) ≡ true) same c.if-number-lt0.true in
    ap (λ z. leaf (whole z))
    (ap (λ z. to_z w64 (of_z w64 z)) same ∙ negative_cast n below c.requires)

pub returns-else-number-lt0 : goal.returns-else-number-lt0
returns-else-number-lt0 c =
    let n = c.args.number in
    let same : to_z w128 (of_z w128 n) ≡ n = to_z-of_z w128 n c.ranges.number in
    let above : int_lt n (pos 0) ≡ false =
    subst (λ z. int_lt z (pos 0) ≡ false) same c.if-number-lt0.false in
    ap (λ z. leaf (whole z)) (unsigned_cast n _ (ap nat_abs same) above)
