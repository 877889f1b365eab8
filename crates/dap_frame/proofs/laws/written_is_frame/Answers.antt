use Rattle.dap_frame.proofs.WrittenFrames.{written_is_frame}
use Rattle.dap_frame.proofs.laws.written_is_frame.Goals as goal

pub returns : goal.returns
returns c = written_is_frame
