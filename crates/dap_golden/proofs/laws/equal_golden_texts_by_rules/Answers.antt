use Rattle.dap_golden.proofs.TextsByRules.{equal_by_rules, equal_in_each_mode}
use Rattle.dap_golden.proofs.laws.equal_golden_texts_by_rules.Goals as goal

pub returns : goal.returns
returns c = record { whole = equal_by_rules; each_mode = equal_in_each_mode }
