use Rattle.dap_message.proofs.FilledOnce.{filled-again}
use Rattle.dap_message.proofs.FilledFits.{fault-filled}
use Rattle.dap_message.proofs.laws.filled_once.Goals as goal

pub returns-clause-fits : goal.returns-clause-fits
returns-clause-fits c = fault-filled

pub returns-clause-once : goal.returns-clause-once
returns-clause-once c = filled-again
