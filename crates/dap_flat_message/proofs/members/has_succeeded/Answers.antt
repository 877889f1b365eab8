use Rattle.std.proofs.Common.{◌∙◌}
use Rattle.dap_flat.specs.declared.node.Node.TheVariants as node
use Rattle.dap_flat_message.proofs.Tops.{is_true_there}
use Rattle.dap_flat_message.proofs.members.has_succeeded.Goals as goal

pub returns : goal.returns
returns c d h =
    c.tells_true.ensures
    ∙ is_true_there c.args.nodes.now c.in-Some.at node.Null c.args.place d c.in-Some.is h
