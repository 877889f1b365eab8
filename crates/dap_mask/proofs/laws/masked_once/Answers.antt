use Rattle.dap_mask.proofs.Settled.{masked_once}
use Rattle.dap_mask.proofs.laws.masked_once.Goals as goal

pub returns : goal.returns
returns c = masked_once
