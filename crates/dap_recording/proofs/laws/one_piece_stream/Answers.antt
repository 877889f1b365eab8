use Rattle.dap_frame.proofs.Ends.{not_empty}
use Rattle.dap_frame.proofs.ItemStreams as items
use Rattle.dap_recording.proofs.TracePieces.{piece_grammar, readable}
use Rattle.dap_recording.proofs.laws.one_piece_stream.Goals as goal

pub returns : goal.returns
returns c = record {
  some = items.some_stream piece_grammar (not_empty readable);
  one = items.one_stream piece_grammar;
}
