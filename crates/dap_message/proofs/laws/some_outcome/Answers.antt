use Rattle.dap_message.proofs.Contents.{some_message}
use Rattle.dap_message.proofs.laws.some_outcome.Goals as goal

pub returns : goal.returns
returns c = some_message
