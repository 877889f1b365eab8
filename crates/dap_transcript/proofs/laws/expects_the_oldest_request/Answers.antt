use Rattle.dap_transcript.proofs.Oldest.{expects_oldest}
use Rattle.dap_transcript.proofs.laws.expects_the_oldest_request.Goals as goal

pub returns : goal.returns
returns c = expects_oldest
