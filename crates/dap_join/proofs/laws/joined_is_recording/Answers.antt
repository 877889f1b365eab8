use Rattle.dap_join.proofs.OneJoined.{joined_is_recording}
use Rattle.dap_join.proofs.laws.joined_is_recording.Goals as goal

pub returns : goal.returns
returns c = joined_is_recording
