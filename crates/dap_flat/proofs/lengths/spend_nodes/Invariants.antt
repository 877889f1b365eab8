use Rattle.std.proofs.Common.{◌≡◌, ◌+◌, drop, false}
use Rattle.dap_flat.specs.Lengths.{nodes_length}
use Rattle.dap_flat.proofs.lengths.spend_nodes.Given as goal

-- what is left, without the remaining nodes, is what is left after all nodes
abbrev pub invariant-loop-node : goal.invariant-loop-node
invariant-loop-node l =
    l.left + nodes_length false l.numbers l.nodes
    ≡ l.limit + nodes_length l.comes l.rest (drop l.node-index l.nodes)
