use Rattle.std.proofs.Common.{◌≡◌, ◌++◌, string_cmp}
use Rattle.std.specs.Map.{keys_of}
use Rattle.std.specs.List.Sorted.{IsStrictlySortedBy}
use Rattle.std.specs.Vec.Iter.{into_iter_items}
use Rattle.serde_json.specs.View.{items_view as values_view, members_view as pairs_view}
use Rattle.dap_tree.specs.View.{items_view, members_view}
use Rattle.dap_mask.specs.Loose.{loose_items, loose_members}
use Rattle.dap_mask.proofs.loose.+loose_tree.Given as goal

-- the items so far represent the values so far
abbrev pub invariant-loose_items-loop-value : goal.invariant-loose_items-loop-value
invariant-loose_items-loop-value l = record {
  all : l.fn.values.items ≡ l.yielded ++ into_iter_items l.value-iterator;
  done : items_view l.items.items ≡ loose_items (values_view l.yielded);
}

abbrev pub invariant-loose_members-loop-name : goal.invariant-loose_members-loop-name
invariant-loose_members-loop-name l = record {
  all : l.fn.values.entries ≡ l.yielded ++ l.name-iterator;
  ordered : IsStrictlySortedBy string_cmp (keys_of l.fn.values.entries);
  done : members_view l.members.entries ≡ loose_members (pairs_view l.yielded);
}
