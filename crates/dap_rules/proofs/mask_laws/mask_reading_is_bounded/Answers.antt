use Rattle.dap_input.proofs.ReadBounds.{is_bounded}
use Rattle.dap_recording.proofs.Records.{readable}
use Rattle.dap_rules.specs.Masking.{masking}
use Rattle.dap_rules.proofs.MaskingFacts.{accepted_facts, value_laws}
use Rattle.dap_rules.proofs.mask_laws.mask_reading_is_bounded.Goals as goal

pub returns : goal.returns
returns c = λ limits mask.
    is_bounded (masking limits mask) (readable limits.frame) (value_laws limits mask)
    (accepted_facts limits mask)
