use Rattle.std.proofs.Common.{subst}
use Rattle.dap_record.specs.TracingSteps.{HasSentRecords}
use Rattle.dap_record.proofs.TraceAnswers.{answered}
use Rattle.dap_record.proofs.tracing.record.Goals as goal

pub returns-clause-outcome : goal.returns-clause-outcome
returns-clause-outcome g c =
    let traced = c.record_input-outcome.ensures in
    answered (Unit {0}) g.R.Source g.W.Sink
    c.args.limits c.args.reader.now c.record_input-outcome.new.reader c.args.writer.now
    c.write_records.new.writer
    traced.bytes traced.stop traced.came
    c.record_input-outcome.new.recorder c.record_input-outcome.result c.write_records.result
    traced.traces
    (subst (λ text. HasSentRecords g.W.Sink text c.record_input-outcome.result
    c.args.writer.now c.write_records.new.writer c.write_records.result) c.text.ensures
    c.write_records.ensures)
