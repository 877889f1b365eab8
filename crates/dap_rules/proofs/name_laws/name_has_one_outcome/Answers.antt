use Rattle.dap_input.proofs.ItemReaders.{shown_cause}
use Rattle.dap_input.proofs.OneOutcome.{has_one_outcome, refusal_of_stays}
use Rattle.dap_recording.proofs.Records.{readable}
use Rattle.dap_rules.specs.Naming.{naming}
use Rattle.dap_rules.proofs.NamingFacts.{accepted_facts, one_named_text, value_facts}
use Rattle.dap_rules.proofs.name_laws.name_has_one_outcome.Goals as goal

pub returns-clause-outcome : goal.returns-clause-outcome
returns-clause-outcome c = λ limits sound declared.
    has_one_outcome (naming limits declared) (shown_cause limits.frame) (readable limits.frame)
    (value_facts limits declared) (accepted_facts limits declared)

pub returns-clause-refusal_stays : goal.returns-clause-refusal_stays
returns-clause-refusal_stays c = λ limits sound declared.
    refusal_of_stays (naming limits declared) (readable limits.frame) (value_facts limits declared)
    (accepted_facts limits declared)

pub returns-clause-text : goal.returns-clause-text
returns-clause-text c = one_named_text
