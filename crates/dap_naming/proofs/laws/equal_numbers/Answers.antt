use Rattle.dap_naming.proofs.Numbers.{equal_numbers}
use Rattle.dap_naming.proofs.laws.equal_numbers.Goals as goal

pub returns : goal.returns
returns c = record { equal = equal_numbers }
