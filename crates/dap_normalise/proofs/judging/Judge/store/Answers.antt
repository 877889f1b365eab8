use Rattle.std.proofs.Common.{◌≡◌, Some, subst}
use Rattle.std.proofs.lemmas.Result.{err_from_is_err_and}
use Rattle.dap_stored.specs.Sessions.{stored_sent}
use Rattle.dap_normalise.specs.Accepting.{IsMessage}
use Rattle.dap_normalise.specs.JudgingSteps.{payload_of, judge_mode}
use Rattle.dap_normalise.proofs.StoredInput.{last_message}
use Rattle.dap_normalise.proofs.judging.Judge.store.Goals as goal

pub returns-in_err-push_record-clause-checks : goal.returns-in_err-push_record-clause-checks
returns-in_err-push_record-clause-checks g c = λ messages normal represents.
    let because = err_from_is_err_and c.from_residual.result c.from_residual.ensures.1 in
    rw (because.1, because.2)
    (c.in_err-push_record.ensures.err c.args.self.now.limits (judge_mode c.args.self.now) messages)

pub returns-clause-checks : goal.returns-clause-checks
returns-clause-checks g c = λ messages normal represents.
    let added = c.in_ok-push_record.ensures.ok in
    let found : Some (stored_sent c.in-Some.message) ≡ Some added.0 =
    last_message _ _ added.0 _ _ c.len-place.ensures added.2 c.in-Some.ensures in
    let same : added.0 ≡ stored_sent c.in-Some.message = let is = found in cc in
    let is : IsMessage (payload_of c.args.whole.now) (stored_sent c.in-Some.message) =
    subst (IsMessage (payload_of c.args.whole.now)) same added.1 in
    c.check_message.ensures.checks messages normal (payload_of c.args.whole.now) represents is
