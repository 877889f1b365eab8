use Rattle.std.proofs.Common.{◌≡◌}
use Rattle.std.specs.Iterator.Adapters.{zip_first, zip_second}
use Rattle.std.specs.Slice.Iter.{iter_rest}
use Rattle.dap_tree.specs.View.{items_view, members_view}
use Rattle.dap_naming.specs.DeclaredRules.{rules_of}
use Rattle.dap_naming.specs.Joint.{KeepsNumbers, limit_of_both, table_of, join_all, items_pairs}
use Rattle.dap_naming.specs.Joint.{members_pairs}
use Rattle.dap_naming.proofs.joint.+join.Given as goal

-- the pairs of the elements that are left are the rest of all pairs
abbrev pub invariant-join_items-loop-item : goal.invariant-join_items-loop-item
invariant-join_items-loop-item l = record {
  joined : join_all (table_of l.names)
      (items_pairs (rules_of l.rules_a) (items_view (iter_rest (zip_first l.item-iterator)))
      (rules_of l.rules_b) (items_view (iter_rest (zip_second l.item-iterator))))
      ≡ join_all (table_of l.initial.names)
      (items_pairs (rules_of l.rules_a) (items_view l.items.items) (rules_of l.rules_b)
      (items_view l.others.items));
  kept : KeepsNumbers l.initial.names l.names;
  limit : limit_of_both l.names ≡ limit_of_both l.initial.names;
}

-- the pairs of the members that are left are the rest of all pairs
abbrev pub invariant-join_members-loop-name : goal.invariant-join_members-loop-name
invariant-join_members-loop-name l = record {
  joined : join_all (table_of l.names)
      (members_pairs (rules_of l.rules_a) (members_view l.name-iterator) (rules_of l.rules_b)
      (members_view l.others.entries))
      ≡ join_all (table_of l.initial.names)
      (members_pairs (rules_of l.rules_a) (members_view l.members.entries) (rules_of l.rules_b)
      (members_view l.others.entries));
  kept : KeepsNumbers l.initial.names l.names;
  limit : limit_of_both l.names ≡ limit_of_both l.initial.names;
}
