use Rattle.dap_frame.proofs.Ends as items
use Rattle.dap_recording.proofs.TracePieces.{one_piece, readable}
use Rattle.dap_recording.proofs.laws.one_piece.Goals as goal

pub returns : goal.returns
returns c = record {
  one = one_piece;
  no_empty = λ side raw. items.not_empty readable (side, raw);
}
