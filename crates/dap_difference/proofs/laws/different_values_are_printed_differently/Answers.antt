use Rattle.dap_difference.proofs.WindowsApart.{printed_apart}
use Rattle.dap_difference.proofs.laws.different_values_are_printed_differently.Goals as goal

pub returns : goal.returns
returns c = printed_apart
