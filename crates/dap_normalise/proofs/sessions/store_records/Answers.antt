use Rattle.std.proofs.Common.{false}
use Rattle.std.proofs.lemmas.Result.{err_from_is_err_and}
use Rattle.dap_normalise.proofs.StoredInput.{all_stored, more_stored, none_stored}
use Rattle.dap_normalise.proofs.StreamAnswers.{check_refuses}
use Rattle.dap_normalise.proofs.StreamLoop.{few_taken}
use Rattle.dap_normalise.proofs.sessions.store_records.Goals as goal

pub loop-session-init : goal.loop-session-init
loop-session-init g c =
    none_stored g.R.Source c.args.reader.now c.requires.represents c.new-session.ensures

pub loop-session-smaller : goal.loop-session-smaller
loop-session-smaller g c =
    let has = c.loop-session.invariant in
    (more_stored has (c.in_ok-store_next.ensures _ _ _ _ _ has.going.represents)
    c.if-branch.true).1

pub loop-session-preserved : goal.loop-session-preserved
loop-session-preserved g c =
    let has = c.loop-session.invariant in
    (more_stored has (c.in_ok-store_next.ensures _ _ _ _ _ has.going.represents)
    c.if-branch.true).0

pub returns-in_err-store_next-clause-err : goal.returns-in_err-store_next-clause-err
returns-in_err-store_next-clause-err g c =
    let because = err_from_is_err_and c.from_residual.result c.from_residual.ensures.1 in
    let was = c.loop-session.invariant.going in
    rw (because.1, because.2)
    (check_refuses was false _ (c.in_err-store_next.ensures _ _ _ _ _ was.represents))

pub returns-in_err-store_next-clause-taken : goal.returns-in_err-store_next-clause-taken
returns-in_err-store_next-clause-taken g c =
    let was = c.loop-session.invariant.going in
    few_taken was (c.in_err-store_next.ensures _ _ _ _ _ was.represents)

pub returns-clause-ok : goal.returns-clause-ok
returns-clause-ok g c =
    let has = c.loop-session.invariant in
    (all_stored has _ (c.in_ok-store_next.ensures _ _ _ _ _ has.going.represents)
    c.if-branch.false).0

pub returns-clause-taken : goal.returns-clause-taken
returns-clause-taken g c =
    let has = c.loop-session.invariant in
    (all_stored has _ (c.in_ok-store_next.ensures _ _ _ _ _ has.going.represents)
    c.if-branch.false).1
