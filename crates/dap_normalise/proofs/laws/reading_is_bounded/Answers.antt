use Rattle.dap_input.proofs.ReadBounds.{is_bounded}
use Rattle.dap_recording.proofs.Records.{readable}
use Rattle.dap_normalise.specs.Accepting.{accepting}
use Rattle.dap_normalise.proofs.AcceptingFacts.{accepted_facts, value_laws}
use Rattle.dap_normalise.proofs.laws.reading_is_bounded.Goals as goal

pub returns : goal.returns
returns c = λ limits mode.
    is_bounded (accepting limits mode) (readable limits.frame) (value_laws limits mode)
    (accepted_facts limits mode)
