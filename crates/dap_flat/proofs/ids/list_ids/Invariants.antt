use Rattle.std.proofs.Common.{◌≡◌, ◌++◌, drop, map}
use Rattle.dap_tree.specs.Ids.{Extends}
use Rattle.dap_flat.specs.Pieces.{piece_of}
use Rattle.dap_flat.specs.Ids.{ids_in}
use Rattle.dap_flat.proofs.ids.list_ids.Given as goal

-- the ids so far and those of the remaining nodes are all ids
abbrev pub invariant-loop-node : goal.invariant-loop-node
invariant-loop-node l = record {
  all : l.found.items ++ ids_in (map piece_of (drop l.node-index l.nodes))
      ≡ l.initial.found.items ++ ids_in (map piece_of l.nodes);
  more : Extends l.initial.found.items l.found.items;
}
