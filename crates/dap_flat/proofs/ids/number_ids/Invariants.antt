use Rattle.std.proofs.Common.{◌≡◌, ◌++◌, drop, take, map}
use Rattle.dap_flat.specs.Pieces.{piece_of}
use Rattle.dap_flat.specs.Ids.{numbered}
use Rattle.dap_flat.proofs.ids.number_ids.Given as goal

-- the nodes so far have their numbers, and the remaining nodes get the remaining numbers
abbrev pub invariant-loop-node : goal.invariant-loop-node
invariant-loop-node l =
    map piece_of (take l.node-index l.nodes) ++ numbered (map piece_of (drop l.node-index l.nodes))
    l.rest
    ≡ numbered (map piece_of l.initial.nodes) l.numbers
