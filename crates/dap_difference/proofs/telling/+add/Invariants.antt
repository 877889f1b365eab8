use Rattle.std.proofs.Common.{◌≡◌, [], ◌++◌, drop, map}
use Rattle.dap_tree.specs.View.{items_view, members_view}
use Rattle.dap_difference.specs.Shown.{path_of, shown_differences}
use Rattle.dap_difference.specs.Telling.{below, items_differences, members_differences}
use Rattle.dap_difference.proofs.telling.+add.Given as goal

-- the differences found so far and the remaining ones are all differences
abbrev pub invariant-add_items-loop-place : goal.invariant-add_items-loop-place
invariant-add_items-loop-place l = record {
  told_so_far : shown_differences l.found.items ++ map (below (path_of l.initial.path.items))
      (items_differences l.place (items_view (drop l.place l.items.items))
      (items_view (drop l.place l.others.items)))
      ≡ shown_differences l.initial.found.items ++ map (below (path_of l.initial.path.items))
      (items_differences 0 (items_view l.items.items) (items_view l.others.items));
  path : l.path.items ≡ l.initial.path.items;
}

abbrev pub invariant-add_members-loop-name : goal.invariant-add_members-loop-name
invariant-add_members-loop-name l = record {
  told_so_far : shown_differences l.found.items ++ map (below (path_of l.initial.path.items))
      (members_differences (members_view l.name-iterator) (members_view l.left))
      ≡ shown_differences l.initial.found.items ++ map (below (path_of l.initial.path.items))
      (members_differences (members_view l.members.entries) (members_view l.others.entries));
  path : l.path.items ≡ l.initial.path.items;
  none : l.members.entries ≡ [] → l.name-iterator ≡ [];
  all_left : l.members.entries ≡ [] → l.left ≡ l.others.entries;
}
