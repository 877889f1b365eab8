use Rattle.std.proofs.Common.{refl}
use Rattle.dap_flat.specs.declared.node.Node.TheVariants as node
use Rattle.dap_show.proofs.FlatElements.{starts_elements}
use Rattle.dap_show.proofs.flat_lines.first_element.Goals as goal

pub returns-in-List : goal.returns-in-List
returns-in-List c =
    starts_elements c.args.nodes.now c.in_ok-body.body c.in_ok-array.array c.in-List.field-0
    c.args.name.now (node.List c.in-List.field-0) node.Null c.in_ok-body.ensures.1
    c.in_ok-array.ensures.1 c.in-List.is refl
