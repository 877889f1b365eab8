use Rattle.std.proofs.Common.{sym, ap, ◌∙◌}
use Rattle.std.proofs.lemmas.List.{take_rest}
use Rattle.dap_words.specs.Apart.{agree}
use Rattle.dap_words.proofs.ApartSteps.{agree_from_more}
use Rattle.dap_words.proofs.apart.agree_from.Goals as goal

pub loop-i-preserved : goal.loop-i-preserved
loop-i-preserved c =
    sym (agree_from_more c.args.bytes.now c.args.other.now c.loop-i.i c.loop-i-test.true
    (sym (ap (λ x. agree x c.args.other.now) (take_rest c.args.bytes.now c.loop-i.i))
    ∙ sym c.agree.ensures ∙ c.if-agree.false))
    ∙ c.loop-i.invariant
