use Rattle.std.proofs.Common.{◌<◌, length, ◌∙◌, arith}
use Rattle.dap_flat.specs.declared.node.Node.TheVariants as node
use Rattle.dap_flat.proofs.IdPieces.{one_numbered}
use Rattle.dap_flat.proofs.ids.number_ids.Goals as goal

pub loop-node-preserved : goal.loop-node-preserved
loop-node-preserved c =
    let l = c.loop-node in
    let within : l.node-index < length l.nodes =
    omega (arith, l.auto.nodes, c.loop-node-test.true) in
    one_numbered l.nodes l.node-index node.Null c.number_node-rest.new.node l.rest.now
    c.number_node-rest.result.now within c.number_node-rest.ensures.put
    c.number_node-rest.ensures.rest
    ∙ l.invariant
