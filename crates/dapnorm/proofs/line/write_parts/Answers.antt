use Rattle.std.proofs.{Common.{arith, refl}, lemmas.Result.err_from_is_err_and}
use Rattle.dap_device.proofs.Sending.{line_not_sent}
use Rattle.dapnorm.specs.Lines.{part_text}
use Rattle.dapnorm.proofs.line.write_parts.Goals as goal

pub returns-in_err-write_part : goal.returns-in_err-write_part
returns-in_err-write_part g c =
    let because = err_from_is_err_and c.from_residual.result c.from_residual.ensures.1 in
    rw (because.1)
    (line_not_sent g.W.Sink part_text c.args.parts.now c.loop-part.part-index _ (omega arith)
    c.args.writer.now c.loop-part.writer c.write_part.new.writer _ refl c.loop-part.invariant
    c.in_err-write_part.ensures)
