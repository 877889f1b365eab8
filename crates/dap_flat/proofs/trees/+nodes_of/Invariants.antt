use Rattle.std.proofs.Common.{◌≡◌, drop, true}
use Rattle.dap_tree.specs.Doc.{items_in_range, members_in_range}
use Rattle.dap_tree.specs.View.{items_view, members_view}
use Rattle.dap_flat.specs.Pieces.{items_pieces, members_pieces}
use Rattle.dap_flat.proofs.TreeNodes.{AppendsUpTo}
use Rattle.dap_flat.proofs.trees.+nodes_of.Given as goal

-- the nodes of all parts except the remaining ones were appended
abbrev pub invariant-list_nodes-loop-item : goal.invariant-list_nodes-loop-item
invariant-list_nodes-loop-item l =
    let left = items_view (drop l.item-index l.item-items) in record {
      in_range : items_in_range left ≡ true;
      so_far : AppendsUpTo l.initial.nodes.items l.nodes.items (items_pieces left)
          (items_pieces (items_view l.item-items));
    }

abbrev pub invariant-object_nodes-loop-name : goal.invariant-object_nodes-loop-name
invariant-object_nodes-loop-name l =
    let left = members_view l.name-iterator in record {
      in_range : members_in_range left ≡ true;
      so_far : AppendsUpTo l.initial.nodes.items l.nodes.items (members_pieces left)
          (members_pieces (members_view l.members.entries));
    }
