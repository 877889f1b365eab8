use Rattle.dap_flat.specs.declared.node.Node.TheVariants as node
use Rattle.dap_naming.proofs.FlatNames.{leaf_named}
use Rattle.dap_naming.proofs.flat.name_leaf.Goals as goal

pub returns-clause-names : goal.returns-clause-names
returns-clause-names c rs is =
    leaf_named c.args.numbers.now c.named_node.new.numbers c.args.nodes.now c.args.at
    c.in_ok-node.node node.Null rs (c.in_ok-node.ensures.names rs is)
