use Rattle.dap_flat.specs.declared.node.Node.TheVariants as node
use Rattle.dap_flat_message.proofs.Replacing.{marked_there}
use Rattle.dap_flat_message.proofs.marks.make_id.Goals as goal

pub returns : goal.returns
returns c d holds =
    marked_there c.args.nodes.now c.args.at c.as_id.result node.Null c.args.sort d holds
    c.as_id.ensures
