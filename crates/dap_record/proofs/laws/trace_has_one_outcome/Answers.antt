use Rattle.dap_record.proofs.TraceOutcomes.{traces_have_one_outcome}
use Rattle.dap_record.proofs.TraceOutcomes.{refusal_stays as trace_refusal_stays}
use Rattle.dap_record.proofs.laws.trace_has_one_outcome.Goals as goal

pub returns : goal.returns
returns c = record {
  outcome = traces_have_one_outcome;
  refusal_stays = trace_refusal_stays;
}
