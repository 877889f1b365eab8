use Rattle.std.proofs.Common.{IfErr, IfOk, subst}
use Rattle.dap_normalise.specs.Normalising.{RefusesBytes}
use Rattle.callers.specs.Pieces.{IsJudged}
use Rattle.callers.proofs.WholeInput.{answered, refused_whole}
use Rattle.callers.proofs.judged_pieces.judge.Goals as goal

pub returns-clause-accepted : goal.returns-clause-accepted
returns-clause-accepted c =
    subst (λ bytes. IfOk c.check.result (IsJudged c.args.limits c.args.mode bytes))
    c.new-input.ensures.left
    (answered c.args.limits c.args.mode c.new-input.result c.check.new.reader c.check.result
    c.check.ensures.outcome)

pub returns-clause-refused : goal.returns-clause-refused
returns-clause-refused c =
    subst (λ bytes. IfErr c.check.result (RefusesBytes c.args.limits c.args.mode bytes))
    c.new-input.ensures.left
    (refused_whole c.args.limits c.args.mode c.new-input.result c.check.new.reader c.requires
    c.recording_has_one_outcome.ensures.refusal_stays c.check.result c.check.ensures.outcome)
