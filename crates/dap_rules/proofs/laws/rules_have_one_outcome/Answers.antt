use Rattle.dap_rules.proofs.OneOutcome.{applied_has_no_error, one_text_by_rules}
use Rattle.dap_rules.proofs.laws.rules_have_one_outcome.Goals as goal

pub returns : goal.returns
returns c = record { text = one_text_by_rules; not_both = applied_has_no_error }
