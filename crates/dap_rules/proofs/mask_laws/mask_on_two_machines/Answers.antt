use Rattle.dap_rules.proofs.MaskedMachines.{masked_alike}
use Rattle.dap_rules.proofs.mask_laws.mask_on_two_machines.Goals as goal

pub returns : goal.returns
returns c = masked_alike
