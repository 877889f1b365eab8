use Rattle.std.proofs.Common.{◌≡◌, ◌++◌, drop, string_cmp}
use Rattle.std.specs.List.Sorted.{IsStrictlySortedBy}
use Rattle.std.specs.Map.{keys_of}
use Rattle.dap_tree.specs.Doc.{items_ordered, members_ordered}
use Rattle.dap_tree.specs.Ids.{items_ids, members_ids, Extends}
use Rattle.dap_tree.specs.View.{items_view, members_view}
use Rattle.dap_tree.proofs.ids.+add.Given as goal

-- the ids found so far and the remaining ids are all ids
abbrev pub invariant-add_items-loop-item : goal.invariant-add_items-loop-item
invariant-add_items-loop-item l = record {
  all : l.found.items ++ items_ids (items_view (drop l.item-index l.item-items))
      ≡ l.initial.found.items ++ items_ids (items_view l.item-items);
  more : Extends l.initial.found.items l.found.items;
  ordered : items_ordered (items_view (drop l.item-index l.item-items))
      ≡ items_ordered (items_view l.item-items);
}

abbrev pub invariant-add_members-loop-member : goal.invariant-add_members-loop-member
invariant-add_members-loop-member l = record {
  all : l.found.items ++ members_ids (members_view l.member-iterator)
      ≡ l.initial.found.items ++ members_ids (members_view l.members.entries);
  more : Extends l.initial.found.items l.found.items;
  sorted : IsStrictlySortedBy string_cmp (keys_of l.member-iterator);
  ordered : members_ordered (members_view l.member-iterator)
      ≡ members_ordered (members_view l.members.entries);
}
