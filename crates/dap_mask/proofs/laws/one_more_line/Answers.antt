use Rattle.dap_mask.proofs.WordLines as lines
use Rattle.dap_mask.proofs.laws.one_more_line.Goals as goal

pub returns : goal.returns
returns c = lines.one_more_line
