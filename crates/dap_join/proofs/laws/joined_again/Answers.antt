use Rattle.dap_join.proofs.Rejoined.{joins_again}
use Rattle.dap_join.proofs.laws.joined_again.Goals as goal

pub returns : goal.returns
returns c = joins_again
