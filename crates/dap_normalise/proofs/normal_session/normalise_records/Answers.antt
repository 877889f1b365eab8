use Rattle.std.proofs.Common.{◌≡◌, ◌+◌, ◌-◌, refl, arith}
use Rattle.std.proofs.lemmas.Result.{err_from_is_err_and}
use Rattle.dap_normalise.proofs.StreamAnswers.{counted, ended, gone, some_records}
use Rattle.dap_normalise.proofs.WholeInput.{more_text, no_text, refuses_bytes, session_whole}
use Rattle.dap_normalise.proofs.normal_session.normalise_records.Goals as goal

pub loop-bytes-init : goal.loop-bytes-init
loop-bytes-init g c =
    no_text c.new-reader.ensures c.requires.represents c.new-bytes.ensures.items

pub loop-bytes-smaller : goal.loop-bytes-smaller
loop-bytes-smaller g c =
    let was = c.loop-bytes.invariant.going in
    (gone was (c.in_ok-next.ensures.next _ _ _ _ _ was.represents) c.if-branch.true).shorter

pub loop-bytes-preserved : goal.loop-bytes-preserved
loop-bytes-preserved g c =
    let was = c.loop-bytes.invariant.going in
    more_text c.loop-bytes.invariant
    (gone was (c.in_ok-next.ensures.next _ _ _ _ _ was.represents) c.if-branch.true)

pub returns-in_err-next-clause-err : goal.returns-in_err-next-clause-err
returns-in_err-next-clause-err g c =
    let because = err_from_is_err_and c.from_residual.result c.from_residual.ensures.1 in
    rw (because.1, because.2)
    (refuses_bytes c.loop-bytes.invariant.going _
    (c.in_err-next.ensures.next _ _ _ _ _ c.loop-bytes.invariant.going.represents))

pub overflow_sub-counts : goal.overflow_sub-counts
overflow_sub-counts g c =
    let was = c.loop-bytes.invariant.going in
    let some = some_records was
    (ended was (c.in_ok-next.ensures.next _ _ _ _ _ was.represents) c.if-branch.false) in
    let is = c.number.ensures in
    omega (arith, some, is)

pub returns-clause-ok : goal.returns-clause-ok
returns-clause-ok g c =
    let was = c.loop-bytes.invariant.going in
    let end = ended was (c.in_ok-next.ensures.next _ _ _ _ _ was.represents) c.if-branch.false in
    let some = some_records was end in
    let is = c.number.ensures in
    let count : c.number.result - 1 + 1 ≡ c.next.new.self.records.number = omega (arith, some, is) in
    session_whole c.loop-bytes.invariant end c.requires.limits _ refl
    (counted was end c.open.result c.open-2.result (c.open.ensures, c.open-2.ensures) _ count refl
    refl)
