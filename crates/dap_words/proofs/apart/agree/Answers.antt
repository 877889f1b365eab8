use Rattle.std.proofs.Common.{sym, ◌∙◌}
use Rattle.dap_words.proofs.ApartSteps.{agree_short}
use Rattle.dap_words.proofs.apart.agree.Goals as goal

pub returns-then-i-other : goal.returns-then-i-other
returns-then-i-other c =
    sym (agree_short c.args.bytes.now c.args.other.now c.loop-i.i c.if-i-other.true)
    ∙ c.loop-i.invariant
