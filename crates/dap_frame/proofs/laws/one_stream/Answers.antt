use Rattle.dap_frame.proofs.ItemStreams as items
use Rattle.dap_frame.proofs.Frames.{frame_grammar, no_empty_frame}
use Rattle.dap_frame.proofs.laws.one_stream.Goals as goal

pub returns : goal.returns
returns c = record {
  some = λ limits. items.some_stream (frame_grammar limits) (no_empty_frame limits);
  one = λ limits. items.one_stream (frame_grammar limits);
}
