use Rattle.dap_join.proofs.OneJoined.{one_joined}
use Rattle.dap_join.proofs.laws.one_joined.Goals as goal

pub returns : goal.returns
returns c = one_joined
