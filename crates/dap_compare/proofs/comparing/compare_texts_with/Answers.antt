use Rattle.std.proofs.lemmas.Result.{err_from_is_err_and}
use Rattle.dap_compare.proofs.StreamComparing.{none_compared}
use Rattle.dap_compare.proofs.comparing.compare_texts_with.Goals as goal

pub returns-in_err-records_a-clause-outcome : goal.returns-in_err-records_a-clause-outcome
returns-in_err-records_a-clause-outcome g c =
    let because = err_from_is_err_and c.from_residual.result
    c.from_residual.ensures.1 in
    rw (because.1, because.2)
    (none_compared g.A.Source g.B.Source c.args.limits c.args.mode c.args.reader_a.now
    c.args.reader_b.now)

pub returns-in_err-records_b-clause-outcome : goal.returns-in_err-records_b-clause-outcome
returns-in_err-records_b-clause-outcome g c =
    let because = err_from_is_err_and c.from_residual-in_err-records_b.result
    c.from_residual-in_err-records_b.ensures.1 in
    rw (because.1, because.2)
    (none_compared g.A.Source g.B.Source c.args.limits c.args.mode c.args.reader_a.now
    c.args.reader_b.now)
