use Rattle.dap_rename.proofs.FinerSameness.{same_in_each_mode}
use Rattle.dap_rename.proofs.laws.same_in_each_mode.Goals as goal

pub returns : goal.returns
returns c = same_in_each_mode
