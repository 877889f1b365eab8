use Rattle.dap_tree.proofs.Outcomes.{some_outcome, one_outcome}
use Rattle.dap_tree.proofs.laws.one_outcome.Goals as goal

pub returns : goal.returns
returns c = record { some = some_outcome; one = one_outcome }
