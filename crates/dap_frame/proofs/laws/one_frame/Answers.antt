use Rattle.dap_frame.proofs.Ends as items
use Rattle.dap_frame.proofs.Frames.{frame_grammar, no_empty_frame}
use Rattle.dap_frame.proofs.laws.one_frame.Goals as goal

pub returns : goal.returns
returns c =
    record { one = λ limits. items.one_item (frame_grammar limits); not_empty = no_empty_frame }
