use Rattle.dap_message.proofs.Contents.{skeleton_tells}
use Rattle.dap_message.proofs.RenumberedMessages.{ids-with}
use Rattle.dap_message.proofs.laws.renumbered_message.Goals as goal

pub returns-clause-skeleton_tells : goal.returns-clause-skeleton_tells
returns-clause-skeleton_tells c = skeleton_tells

pub returns-clause-ids : goal.returns-clause-ids
returns-clause-ids c = ids-with
