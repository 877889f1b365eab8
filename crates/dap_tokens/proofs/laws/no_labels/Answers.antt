use Rattle.dap_tokens.proofs.NoLabels.{no_labels}
use Rattle.dap_tokens.proofs.laws.no_labels.Goals as goal

pub returns : goal.returns
returns c = no_labels
