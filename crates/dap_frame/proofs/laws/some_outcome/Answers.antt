use Rattle.dap_frame.proofs.Ends as items
use Rattle.dap_frame.proofs.Frames.{frame_grammar}
use Rattle.dap_frame.proofs.laws.some_outcome.Goals as goal

pub returns : goal.returns
returns c = λ limits. items.some_outcome (frame_grammar limits)
