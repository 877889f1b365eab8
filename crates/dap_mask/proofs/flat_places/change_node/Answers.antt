use Rattle.dap_flat.specs.declared.node.Node.TheVariants as node
use Rattle.dap_mask.proofs.FlatChanges.{changed_there}
use Rattle.dap_mask.proofs.flat_places.change_node.Goals as goal

pub returns : goal.returns
returns c d holds =
    changed_there c.args.nodes.now c.args.at c.in_ok-node.node node.Null c.args.verb d holds
    c.in_ok-node.ensures
