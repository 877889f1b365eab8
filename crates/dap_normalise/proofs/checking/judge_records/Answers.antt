use Rattle.std.proofs.Common.{false, refl, sym, arith}
use Rattle.std.proofs.lemmas.Bool.{true≢false}
use Rattle.std.proofs.lemmas.Result.{err_from_is_err_and}
use Rattle.dap_normalise.proofs.StreamAnswers.{check_accepts, check_refuses, ended, gone}
use Rattle.dap_normalise.proofs.StreamAnswers.{some_records}
use Rattle.dap_normalise.proofs.StreamLoop.{all_taken, few_taken, on}
use Rattle.dap_normalise.proofs.checking.judge_records.Goals as goal

pub returns-in_err-check_next-clause-outcome : goal.returns-in_err-check_next-clause-outcome
returns-in_err-check_next-clause-outcome g c =
    let was = c.records.invariant in
    let because = err_from_is_err_and c.from_residual.result c.from_residual.ensures.1 in
    rw (because.1, because.2)
    (check_refuses was false _ (c.in_err-check_next.ensures _ _ _ _ _ was.represents).1)

pub returns-in_err-check_next-clause-taken : goal.returns-in_err-check_next-clause-taken
returns-in_err-check_next-clause-taken g c =
    let was = c.records.invariant in
    few_taken was (c.in_err-check_next.ensures _ _ _ _ _ was.represents).1

pub records-smaller : goal.records-smaller
records-smaller g c =
    let was = c.records.invariant in
    (gone was (c.in_ok-check_next.ensures _ _ _ _ _ was.represents).1 c.if-branch.true).shorter

pub records-preserved : goal.records-preserved
records-preserved g c =
    let was = c.records.invariant in
    on was (gone was (c.in_ok-check_next.ensures _ _ _ _ _ was.represents).1 c.if-branch.true)

pub overflow_sub-result : goal.overflow_sub-result
overflow_sub-result g c =
    let was = c.records.invariant in
    let end = ended was (c.in_ok-check_next.ensures _ _ _ _ _ was.represents).1
    c.if-branch.false in
    let some = some_records was end in
    let is = c.number.ensures in
    omega (arith, some, is)

pub returns-clause-outcome : goal.returns-clause-outcome
returns-clause-outcome g c =
    let was = c.records.invariant in
    let end = ended was (c.in_ok-check_next.ensures _ _ _ _ _ was.represents).1
    c.if-branch.false in
    let some = some_records was end in
    let is = c.number.ensures in
    check_accepts was end false c.open.result c.open-2.result (c.open.ensures, c.open-2.ensures) _
    (omega (arith, some, is)) refl refl (λ asked. absurd (true≢false (sym asked)))

pub returns-clause-taken : goal.returns-clause-taken
returns-clause-taken g c =
    let was = c.records.invariant in
    all_taken was
    (ended was (c.in_ok-check_next.ensures _ _ _ _ _ was.represents).1 c.if-branch.false)
