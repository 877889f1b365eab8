use Rattle.dap_frame.proofs.Streams.{any_pieces, fault_in_any_pieces}
use Rattle.dap_frame.proofs.laws.any_pieces.Goals as goal

pub returns : goal.returns
returns c = record { contents = any_pieces; fault = fault_in_any_pieces }
