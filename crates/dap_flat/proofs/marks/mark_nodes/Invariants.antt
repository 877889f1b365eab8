use Rattle.std.proofs.Common.{◌≡◌, ◌++◌, drop, false}
use Rattle.dap_flat.specs.Marks.{Extends, nodes_marks}
use Rattle.dap_flat.proofs.marks.mark_nodes.Given as goal

-- the marks so far and those of the remaining nodes are all marks
abbrev pub invariant-loop-node : goal.invariant-loop-node
invariant-loop-node l = record {
  all : l.marks.items ++ nodes_marks l.at l.comes (drop l.node-index l.nodes)
      ≡ l.initial.marks.items ++ nodes_marks 0 false l.nodes;
  more : Extends l.initial.marks.items l.marks.items;
}
