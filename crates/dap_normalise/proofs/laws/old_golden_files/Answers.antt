use Rattle.dap_normalise.proofs.OldGoldenFiles.{old_golden_files}
use Rattle.dap_normalise.proofs.laws.old_golden_files.Goals as goal

pub returns : goal.returns
returns c = old_golden_files
