use Rattle.dap_transcript.proofs.Oldest.{one_more_record}
use Rattle.dap_transcript.proofs.laws.one_record_more.Goals as goal

pub returns : goal.returns
returns c = one_more_record
