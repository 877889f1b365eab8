use Rattle.dap_flat.proofs.Adding.{adds_one}
use Rattle.dap_flat.proofs.trees.add_node.Goals as goal

pub returns : goal.returns
returns c = adds_one _ _ _ c.in_ok-push.ensures.items
