use Rattle.dap_golden.proofs.TextsByRules.{golden_is_ordered, one_masked_list}
use Rattle.dap_golden.proofs.laws.golden_messages_by_rules.Goals as goal

pub returns : goal.returns
returns c = record { one = one_masked_list; ordered = golden_is_ordered }
