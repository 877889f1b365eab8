use Rattle.dap_show.proofs.ViewedInputs.{done_strictly, refused_strictly}
use Rattle.dap_show.proofs.viewing.show_with.Goals as goal

pub returns-in-Ok-clause-outcome : goal.returns-in-Ok-clause-outcome
returns-in-Ok-clause-outcome g c =
    done_strictly c.args.detail c.args.limits g.R.Source g.W.Sink c.args.reader.now
    c.view_input.new.reader c.args.writer.now c.view_input.new.writer (tt {0}) c.in-Ok.field-0
    c.in-Ok.ensures.outcome

pub returns-in-Err-clause-outcome : goal.returns-in-Err-clause-outcome
returns-in-Err-clause-outcome g c =
    refused_strictly c.args.detail c.args.limits g.R.Source g.W.Sink c.args.reader.now
    c.view_input.new.reader c.args.writer.now c.view_input.new.writer (Unit {0}) c.in-Err.refused
    c.in-Err.ensures.outcome
