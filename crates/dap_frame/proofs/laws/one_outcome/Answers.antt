use Rattle.dap_frame.proofs.Ends as items
use Rattle.dap_frame.proofs.Frames.{frame_grammar}
use Rattle.dap_frame.proofs.laws.one_outcome.Goals as goal

pub returns : goal.returns
returns c = record {
  frame_not_faulty = λ limits. items.item_not_faulty (frame_grammar limits);
  frame_not_open = λ limits. items.item_not_open (frame_grammar limits);
  open_not_faulty = λ limits. items.open_not_faulty (frame_grammar limits);
}
