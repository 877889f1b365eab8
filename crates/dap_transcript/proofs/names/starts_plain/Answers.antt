use Rattle.std.proofs.Common.{arith}
use Rattle.dap_transcript.proofs.PlainNames.{plain_form}
use Rattle.dap_transcript.proofs.names.starts_plain.Goals as goal

pub returns-in-len1-up : goal.returns-in-len1-up
returns-in-len1-up c =
    plain_form c.args.name.now c.is_letter.result (omega arith) c.requires c.is_letter.ensures
