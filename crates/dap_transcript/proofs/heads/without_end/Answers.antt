use Rattle.dap_transcript.proofs.RecordTexts.{front_of}
use Rattle.dap_transcript.proofs.heads.without_end.Goals as goal

pub returns-clause-front : goal.returns-clause-front
returns-clause-front c own is = front_of c.args.text.now own c.args.end.now is
