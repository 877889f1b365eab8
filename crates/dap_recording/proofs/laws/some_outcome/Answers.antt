use Rattle.dap_frame.proofs.Ends as items
use Rattle.dap_recording.proofs.Records.{record_grammar, open_none}
use Rattle.dap_recording.proofs.laws.some_outcome.Goals as goal

pub returns : goal.returns
returns c =
    record { some = λ limits. items.some_outcome (record_grammar limits); open_none = open_none }
