use Rattle.dap_frame.proofs.Ends as items
use Rattle.dap_recording.proofs.TracePieces.{piece_grammar}
use Rattle.dap_recording.proofs.TraceSteps.{stands_open_piece}
use Rattle.dap_recording.proofs.laws.one_trace_outcome.Goals as goal

pub returns : goal.returns
returns c = record {
  some = items.some_outcome piece_grammar;
  piece_not_faulty =
      λ front more side raw. items.item_not_faulty piece_grammar front more (side, raw);
  piece_not_open = λ front more side raw. items.item_not_open piece_grammar front more (side, raw);
  open_not_faulty = items.open_not_faulty piece_grammar;
  represented_is_incomplete = stands_open_piece;
}
