use Rattle.dap_transcript.proofs.SameTranscripts.{equal_transcripts}
use Rattle.dap_transcript.proofs.laws.equal_transcripts.Goals as goal

pub returns : goal.returns
returns c = equal_transcripts
