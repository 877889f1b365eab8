use Rattle.dap_recording.proofs.RecordSteps.{represented_is_incomplete}
use Rattle.dap_recording.proofs.RecordStreams.{any_pieces, fault_in_any_pieces}
use Rattle.dap_recording.proofs.laws.any_record_pieces.Goals as goal

pub returns : goal.returns
returns c = record {
  represented_is_incomplete = represented_is_incomplete;
  records = any_pieces;
  fault
      = fault_in_any_pieces;
}
