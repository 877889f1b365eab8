use Rattle.std.proofs.Common.{subst}
use Rattle.std.specs.Prelude.{IfSome}
use Rattle.std.proofs.lemmas.Result.{err_from_is_err_and}
use Rattle.dap_message.specs.Message.{sent}
use Rattle.dap_flat_message.specs.FlatMessages.{flat_sent}
use Rattle.dap_normalise.specs.Accepting.{IsMessage}
use Rattle.dap_normalise.specs.JudgingSteps.{payload_of, judge_mode}
use Rattle.dap_normalise.proofs.JudgedRecords.{as_checked}
use Rattle.dap_normalise.proofs.judging.Judge.check.Goals as goal

pub returns-in_err-message-clause-checks : goal.returns-in_err-message-clause-checks
returns-in_err-message-clause-checks g c = λ messages normal represents.
    let because = err_from_is_err_and c.from_residual.result c.from_residual.ensures.1 in
    rw (because.1, because.2)
    (rw c.as_slice-content.ensures at c.in_err-message.ensures.err c.args.self.now.limits
    (judge_mode c.args.self.now) messages)

pub returns-in-Some-clause-checks : goal.returns-in-Some-clause-checks
returns-in-Some-clause-checks g c = λ messages normal represents.
    let read : IsMessage (c.args.whole.now.side, c.as_slice-content.result.now)
    (flat_sent c.in-Some.message) =
    subst (λ o. IfSome o (λ m. IsMessage (c.args.whole.now.side, c.as_slice-content.result.now)
    (flat_sent m))) c.in-Some.is c.in_ok-message.ensures.ok in
    let is : IsMessage (payload_of c.args.whole.now) (flat_sent c.in-Some.message) =
    rw c.as_slice-content.ensures at read in
    c.check_message.ensures.checks messages normal (payload_of c.args.whole.now) represents is

pub returns-clause-checks : goal.returns-clause-checks
returns-clause-checks g c = λ messages normal represents.
    let is : IsMessage (payload_of c.args.whole.now) (sent c.in_ok-message-2.message) =
    rw c.as_slice-content.ensures at c.in_ok-message-2.ensures.ok in
    as_checked g.T.NameTable.numbers g.T.NameTable.limit messages normal
    (payload_of c.args.whole.now) c.args.number c.args.self.now c.judge_message.new.self _
    c.judge_message.new.out.items c.judge_message.result
    c.new-text.ensures.items
    (c.judge_message.ensures.judges messages normal (payload_of c.args.whole.now) represents is)
