use Rattle.dap_message.proofs.RowMarks.{mark_is_marked}
use Rattle.dap_message.proofs.OneMarking.{one_marked}
use Rattle.dap_message.proofs.laws.one_marking.Goals as goal

pub returns-clause-marked : goal.returns-clause-marked
returns-clause-marked c = mark_is_marked

pub returns-clause-one : goal.returns-clause-one
returns-clause-one c = one_marked
