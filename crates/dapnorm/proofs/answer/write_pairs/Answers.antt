use Rattle.std.proofs.{Common.{arith, refl}, lemmas.Result.err_from_is_err_and}
use Rattle.dap_device.proofs.Sending.{line_not_sent}
use Rattle.dapnorm.specs.Answers.{pair_line}
use Rattle.dapnorm.proofs.answer.write_pairs.Goals as goal

pub returns-in_err-write_pair : goal.returns-in_err-write_pair
returns-in_err-write_pair g c =
    let because = err_from_is_err_and c.from_residual.result c.from_residual.ensures.1 in
    rw (because.1)
    (line_not_sent g.W.Sink (pair_line c.args.mode) c.args.pairs.now c.loop-pair.pair-index _
    (omega arith) c.args.writer.now c.loop-pair.writer c.write_pair.new.writer _ refl
    c.loop-pair.invariant c.in_err-write_pair.ensures)
