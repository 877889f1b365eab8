use Rattle.std.proofs.Common.{w64}
use Rattle.std.proofs.lemmas.Int.{to_z-of_z}
use Rattle.std.proofs.lemmas.Result.{on_ok_weaker}
use Rattle.dap_tree.proofs.Writing.{signed_written}
use Rattle.dap_tree.proofs.write.write_id.Goals as goal

pub returns-clause-ok : goal.returns-clause-ok
returns-clause-ok c =
    let n = c.args.n in
    on_ok_weaker c.i64.result
    (signed_written n _ c.args.out.now.tokens c.i64.new.self.tokens (to_z-of_z w64 n c.ranges.n)
    c.ranges.n) c.i64.ensures.ok
