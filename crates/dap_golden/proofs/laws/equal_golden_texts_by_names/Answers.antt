use Rattle.dap_golden.proofs.TextsByRules.{equal_by_exchanges, equal_by_names}
use Rattle.dap_golden.proofs.laws.equal_golden_texts_by_names.Goals as goal

pub returns : goal.returns
returns c = record { whole = equal_by_exchanges; each_mode = equal_by_names }
