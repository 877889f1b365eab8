use Rattle.dap_rules.proofs.TextsByRules.{one_masked_list, session_is_ordered}
use Rattle.dap_rules.proofs.laws.messages_by_rules.Goals as goal

pub returns : goal.returns
returns c = record { one = one_masked_list; ordered = session_is_ordered }
