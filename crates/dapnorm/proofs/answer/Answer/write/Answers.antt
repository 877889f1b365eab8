use Rattle.std.{proofs.{Common.subst, lemmas.Result.err_from_is_err_and}, specs.List.flat_map}
use Rattle.dap_device.proofs.Sending.{all_then_all, all_then_flush, all_then_front}
use Rattle.dap_device.specs.Written.{AllWritten}
use Rattle.dapnorm.specs.Answers.{answer_mode, answer_pairs, answer_texts, pair_line}
use Rattle.dapnorm.specs.Lines.{joined}
use Rattle.dapnorm.proofs.answer.Answer.write.Goals as goal

pub returns-in_err-write_pairs : goal.returns-in_err-write_pairs
returns-in_err-write_pairs g c =
    let because =
    err_from_is_err_and c.from_residual-in_err-write_pairs.result
    c.from_residual-in_err-write_pairs.ensures.1 in
    let line = subst (AllWritten g.W.Sink c.args.writer.now c.write_parts.new.writer)
    c.parts.ensures c.in_ok-write_parts.ensures in
    rw (because.1)
    (all_then_front g.W.Sink c.args.writer.now c.write_parts.new.writer c.write_pairs.new.writer
    (joined (answer_texts c.args.self.now))
    (flat_map (pair_line (answer_mode c.args.self.now)) (answer_pairs c.args.self.now)) line
    (rw (c.mode.ensures, c.pairs.ensures) at c.in_err-write_pairs.ensures))

pub returns : goal.returns
returns g c =
    let line = subst (AllWritten g.W.Sink c.args.writer.now c.write_parts.new.writer)
    c.parts.ensures c.in_ok-write_parts.ensures in
    all_then_flush g.W.Sink c.args.writer.now c.write_pairs.new.writer c.flush.new.self _
    c.flush.result
    (all_then_all g.W.Sink c.args.writer.now c.write_parts.new.writer c.write_pairs.new.writer
    (joined (answer_texts c.args.self.now))
    (flat_map (pair_line (answer_mode c.args.self.now)) (answer_pairs c.args.self.now)) line
    (rw (c.mode.ensures, c.pairs.ensures) at c.in_ok-write_pairs.ensures)) c.flush.ensures.flushed
