use Rattle.dap_mask.proofs.LeftIds.{leaves_ids}
use Rattle.dap_mask.proofs.laws.leaves_ids.Goals as goal

pub returns : goal.returns
returns c = leaves_ids
