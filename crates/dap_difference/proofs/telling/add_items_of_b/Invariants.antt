use Rattle.std.proofs.Common.{◌≡◌, ◌++◌, drop, map}
use Rattle.dap_tree.specs.View.{items_view}
use Rattle.dap_difference.specs.Shown.{path_of, shown_differences}
use Rattle.dap_difference.specs.Telling.{below, items_of_b}
use Rattle.dap_difference.proofs.telling.add_items_of_b.Given as goal

abbrev pub invariant-loop-place : goal.invariant-loop-place
invariant-loop-place l = record {
  told_so_far : shown_differences l.found.items ++ map (below (path_of l.initial.path.items))
      (items_of_b l.place (items_view (drop l.place l.items.items)))
      ≡ shown_differences l.initial.found.items ++ map (below (path_of l.initial.path.items))
      (items_of_b l.first (items_view (drop l.first l.items.items)));
  path : l.path.items ≡ l.initial.path.items;
}
