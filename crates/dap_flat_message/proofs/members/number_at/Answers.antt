use Rattle.std.proofs.Common.{◌∙◌}
use Rattle.dap_flat.specs.declared.node.Node.TheVariants as node
use Rattle.dap_flat_message.proofs.Tops.{id_number_there}
use Rattle.dap_flat_message.proofs.members.number_at.Goals as goal

pub returns : goal.returns
returns c d h =
    c.number_of.ensures
    ∙ id_number_there c.args.nodes.now c.in-Some.at node.Null c.args.place d c.in-Some.is h
