use Rattle.dap_difference.proofs.PutIn.{none_where_same}
use Rattle.dap_difference.proofs.laws.nothing_differs_where_they_are_the_same.Goals as goal

pub returns : goal.returns
returns c = none_where_same
