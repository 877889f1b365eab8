use Rattle.dap_mask.proofs.Relations.{digits_are, hex_is}
use Rattle.dap_mask.proofs.laws.texts.Goals as goal

pub returns : goal.returns
returns c = record { digits = digits_are; hex = hex_is }
