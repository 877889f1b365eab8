use Rattle.std.proofs.Common.{◌≡◌, ◌++◌, drop}
use Rattle.dap_flat.specs.Writing.{tokens_of}
use Rattle.dap_flat.proofs.write.write_nodes.Given as goal

-- the tokens so far and those of the remaining nodes are all tokens
abbrev pub invariant-loop-node : goal.invariant-loop-node
invariant-loop-node l = record {
  before : l.out.before ≡ l.initial.out.before;
  tokens : l.out.tokens ++ tokens_of (drop l.node-index l.nodes)
      ≡ l.initial.out.tokens ++ tokens_of l.nodes;
}
