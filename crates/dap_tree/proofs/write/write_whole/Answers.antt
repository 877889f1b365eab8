use Rattle.std.proofs.Common.{◌≡◌, true, false, pos, nat_abs, int_lt, to_z, of_z, w64, subst, ap}
use Rattle.std.proofs.Common.{◌∙◌}
use Rattle.std.specs.Int.{w128}
use Rattle.std.proofs.lemmas.Int.{to_z-of_z}
use Rattle.std.proofs.lemmas.Result.{on_ok_weaker}
use Rattle.dap_tree.proofs.Writing.{negative_cast, negative_written, unsigned_written}
use Rattle.dap_tree.proofs.write.write_whole.Goals as goal

pub returns-then-n-lt0-clause-ok : goal.returns-then-n-lt0-clause-ok
returns-then-n-lt0-clause-ok c =
    let n = c.args.n in
    let same : to_z w128 (of_z w128 n) ≡ n = to_z-of_z w128 n c.ranges.n in
    let below : int_lt n (pos 0) ≡ true =
    subst (λ z. int_lt z (pos 0) ≡ true) same c.if-n-lt0.true in
    let cast = ap (λ z. to_z w64 (of_z w64 z)) same ∙ negative_cast n below c.requires in
    on_ok_weaker c.i64.result
    (negative_written n _ c.args.out.now.tokens c.i64.new.self.tokens cast below c.requires)
    c.i64.ensures.ok

pub returns-else-n-lt0-clause-ok : goal.returns-else-n-lt0-clause-ok
returns-else-n-lt0-clause-ok c =
    let n = c.args.n in
    let same : to_z w128 (of_z w128 n) ≡ n = to_z-of_z w128 n c.ranges.n in
    let above : int_lt n (pos 0) ≡ false =
    subst (λ z. int_lt z (pos 0) ≡ false) same c.if-n-lt0.false in
    on_ok_weaker c.u64.result
    (unsigned_written n _ c.args.out.now.tokens c.u64.new.self.tokens (ap nat_abs same) above
    c.requires) c.u64.ensures.ok
