use Rattle.dap_rules.proofs.OneOrderOutcome.{one_order_error, ordered_has_no_error}
use Rattle.dap_rules.proofs.OrderedTexts.{one_ordered_text}
use Rattle.dap_rules.proofs.order_laws.order_has_one_outcome.Goals as goal

pub returns-clause-text : goal.returns-clause-text
returns-clause-text c = one_ordered_text

pub returns-clause-error : goal.returns-clause-error
returns-clause-error c = one_order_error

pub returns-clause-not_both : goal.returns-clause-not_both
returns-clause-not_both c = ordered_has_no_error
