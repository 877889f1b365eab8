use Rattle.dap_normalise.proofs.WholeGoldenFiles.{whole_text_is_normalised}
use Rattle.dap_normalise.proofs.laws.golden_files_of_the_whole.Goals as goal

pub returns : goal.returns
returns c = whole_text_is_normalised
