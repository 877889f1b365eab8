use Rattle.std.proofs.Common.{◌∙◌, Some, refl}
use Rattle.dap_flat.specs.declared.node.Node.TheVariants as node
use Rattle.dap_flat_message.proofs.Tops.{text_value_there}
use Rattle.dap_naming.proofs.flat_rules.text_at.Goals as goal

pub returns : goal.returns
returns c d h =
    c.text_in.ensures
    ∙ text_value_there c.args.nodes.now c.args.at node.Null (Some c.args.at) (Some d) refl
    (d, refl, h)
