use Rattle.dap_mask.proofs.FilledValues.{fills_keep_values}
use Rattle.dap_mask.proofs.FilledOnce.{filled_once}
use Rattle.dap_mask.proofs.laws.fills_keep_values.Goals as goal

pub returns : goal.returns
returns c = record { values = fills_keep_values; once = filled_once }
