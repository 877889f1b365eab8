use Rattle.dap_input.proofs.ReadBounds.{is_bounded}
use Rattle.dap_recording.proofs.Records.{readable}
use Rattle.dap_rules.specs.Naming.{naming}
use Rattle.dap_rules.proofs.NamingFacts.{accepted_facts, value_laws}
use Rattle.dap_rules.proofs.name_laws.name_reading_is_bounded.Goals as goal

pub returns : goal.returns
returns c = λ limits declared.
    is_bounded (naming limits declared) (readable limits.frame) (value_laws limits declared)
    (accepted_facts limits declared)
