use Rattle.dap_frame.proofs.Ends as items
use Rattle.dap_recording.proofs.Records.{record_grammar}
use Rattle.dap_recording.proofs.laws.fault_stays.Goals as goal

pub returns : goal.returns
returns c = record {
  more = λ limits. items.fault_stays;
  front = λ limits. items.fault_early;
  later = λ limits. items.shown_later (record_grammar limits);
}
