use Rattle.dap_frame.proofs.Ends as items
use Rattle.dap_recording.proofs.Records.{record_grammar, readable}
use Rattle.dap_recording.proofs.RecordFaults.{shown_of_format}
use Rattle.dap_recording.proofs.laws.one_cause.Goals as goal

pub returns : goal.returns
returns c =
    record {
      one = λ limits. items.one_fault (record_grammar limits);
      within = λ limits. items.shown_inside (readable limits);
      of_format = shown_of_format;
    }
