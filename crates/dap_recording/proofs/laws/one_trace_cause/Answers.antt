use Rattle.dap_frame.proofs.Ends as items
use Rattle.dap_recording.proofs.TracePieces.{piece_grammar, readable}
use Rattle.dap_recording.proofs.laws.one_trace_cause.Goals as goal

pub returns : goal.returns
returns c = record {
  one = items.one_fault piece_grammar;
  within = items.shown_inside readable;
  more = items.fault_stays;
  front = items.fault_early;
  later = items.shown_later piece_grammar;
}
