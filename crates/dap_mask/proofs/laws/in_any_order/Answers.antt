use Rattle.dap_mask.proofs.AnyOrder.{in_any_order}
use Rattle.dap_mask.proofs.laws.in_any_order.Goals as goal

pub returns : goal.returns
returns c = in_any_order
