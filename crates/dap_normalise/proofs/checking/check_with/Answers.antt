use Rattle.std.proofs.lemmas.Result.{err_from_is_err_and}
use Rattle.dap_normalise.proofs.StreamAnswers.{refuses_all_the_same}
use Rattle.dap_normalise.proofs.checking.check_with.Goals as goal

pub returns-in_err-checked-clause-outcome : goal.returns-in_err-checked-clause-outcome
returns-in_err-checked-clause-outcome g c =
    let because = err_from_is_err_and c.from_residual.result c.from_residual.ensures.1 in
    rw (because.1, because.2)
    (refuses_all_the_same g.R.Source c.args.limits c.args.mode
    c.args.complete c.args.reader.now c.count_records.new.reader _
    c.in_err-checked.ensures.outcome)
