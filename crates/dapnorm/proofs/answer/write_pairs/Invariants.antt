use Rattle.std.{proofs.Common.take, specs.List.flat_map}
use Rattle.dap_device.specs.Written.{AllWritten}
use Rattle.dapnorm.specs.Answers.{pair_line}
use Rattle.dapnorm.proofs.answer.write_pairs.Given as goal

-- the lines of the pairs so far went out
abbrev pub invariant-loop-pair : goal.invariant-loop-pair
invariant-loop-pair g l =
    AllWritten g.W.Sink l.fn.writer l.writer
    (flat_map (pair_line l.fn.mode) (take l.pair-index l.pairs))
