use Rattle.std.proofs.Common.{◌≡◌, ◌++◌, drop}
use Rattle.dap_flat.specs.Writing.{tokens_of}
use Rattle.dap_show.proofs.indented.push_nodes.Given as goal

-- The tokens so far, followed by those of the remaining nodes, are all tokens.
abbrev pub invariant-loop-node : goal.invariant-loop-node
invariant-loop-node l =
    l.out ++ tokens_of (drop l.node-index l.nodes) ≡ l.initial.out ++ tokens_of l.nodes
