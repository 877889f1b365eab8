use Rattle.std.proofs.Common.{◌≡◌, ◌++◌, map}
use Rattle.dap_tree.specs.View.{members_view}
use Rattle.dap_difference.specs.Shown.{path_of, shown_differences}
use Rattle.dap_difference.specs.Telling.{below, members_of_b}
use Rattle.dap_difference.proofs.telling.add_members_of_b.Given as goal

abbrev pub invariant-loop-name : goal.invariant-loop-name
invariant-loop-name l = record {
  told_so_far : shown_differences l.found.items ++ map (below (path_of l.initial.path.items))
      (members_of_b (members_view l.name-iterator))
      ≡ shown_differences l.initial.found.items ++ map (below (path_of l.initial.path.items))
      (members_of_b (members_view l.fn.left));
  path : l.path.items ≡ l.initial.path.items;
}
