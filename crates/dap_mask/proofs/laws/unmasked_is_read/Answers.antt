use Rattle.dap_mask.proofs.Loosening.{unmasked_is_read}
use Rattle.dap_mask.proofs.laws.unmasked_is_read.Goals as goal

pub returns : goal.returns
returns c = unmasked_is_read
