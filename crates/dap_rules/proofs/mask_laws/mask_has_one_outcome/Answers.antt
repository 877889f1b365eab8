use Rattle.dap_input.proofs.ItemReaders.{shown_cause}
use Rattle.dap_input.proofs.OneOutcome.{has_one_outcome, refusal_of_stays}
use Rattle.dap_recording.proofs.Records.{readable}
use Rattle.dap_rules.specs.Masking.{masking}
use Rattle.dap_rules.proofs.MaskingFacts.{value_facts, accepted_facts}
use Rattle.dap_rules.proofs.mask_laws.mask_has_one_outcome.Goals as goal

pub returns-clause-outcome : goal.returns-clause-outcome
returns-clause-outcome c = λ limits sound mask.
    has_one_outcome (masking limits mask) (shown_cause limits.frame) (readable limits.frame)
    (value_facts limits mask) (accepted_facts limits mask)

pub returns-clause-refusal_stays : goal.returns-clause-refusal_stays
returns-clause-refusal_stays c = λ limits sound mask.
    refusal_of_stays (masking limits mask) (readable limits.frame) (value_facts limits mask)
    (accepted_facts limits mask)
