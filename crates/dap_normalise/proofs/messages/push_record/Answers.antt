use Rattle.std.proofs.lemmas.Result.{err_from_is_err_and}
use Rattle.dap_normalise.proofs.messages.push_record.Goals as goal

pub returns-in_err-message-clause-err : goal.returns-in_err-message-clause-err
returns-in_err-message-clause-err c =
    let because = err_from_is_err_and c.from_residual.result c.from_residual.ensures.1 in
    rw (because.1, because.2)
    (rw c.as_slice-content.ensures at c.in_err-message.ensures.err)

pub returns-in_err-message-2-clause-err : goal.returns-in_err-message-2-clause-err
returns-in_err-message-2-clause-err c =
    let because = err_from_is_err_and c.from_residual-in_err-message-2.result
    c.from_residual-in_err-message-2.ensures.1 in
    rw (because.1, because.2)
    (rw c.as_slice-content.ensures at c.in_err-message-2.ensures.err)
