use Rattle.dap_frame.proofs.Ends as items
use Rattle.dap_frame.proofs.Faults.{shown_within, shown_of_format}
use Rattle.dap_frame.proofs.Frames.{frame_grammar}
use Rattle.dap_frame.proofs.laws.one_fault.Goals as goal

pub returns : goal.returns
returns c =
    record {
      one = λ limits. items.one_fault (frame_grammar limits);
      within = shown_within;
      of_format = shown_of_format;
    }
