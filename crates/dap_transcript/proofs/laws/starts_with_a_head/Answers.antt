use Rattle.dap_transcript.proofs.SameTranscripts.{head_first}
use Rattle.dap_transcript.proofs.laws.starts_with_a_head.Goals as goal

pub returns : goal.returns
returns c = head_first
