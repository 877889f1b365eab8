use Rattle.std.proofs.Common.{◌≡◌, ◌++◌, string_cmp}
use Rattle.std.specs.Map.{keys_of}
use Rattle.std.specs.List.Sorted.{IsStrictlySortedBy}
use Rattle.std.specs.Vec.Iter.{into_iter_items}
use Rattle.serde_json.specs.View.{items_view as values_view, members_view as pairs_view}
use Rattle.dap_tree.specs.Json.{ItemsMatch, MembersMatch}
use Rattle.dap_tree.specs.View.{items_view, members_view}
use Rattle.dap_tree.proofs.read.+tree_of.Given as goal

-- the trees so far represent the values so far
abbrev pub invariant-items_of-loop-value : goal.invariant-items_of-loop-value
invariant-items_of-loop-value l = record {
  all : l.fn.values.items ≡ l.yielded ++ into_iter_items l.value-iterator;
  done : ItemsMatch (values_view l.yielded) (items_view l.items.items);
}

abbrev pub invariant-members_of-loop-name : goal.invariant-members_of-loop-name
invariant-members_of-loop-name l = record {
  all : l.fn.values.entries ≡ l.yielded ++ l.name-iterator;
  ordered : IsStrictlySortedBy string_cmp (keys_of l.fn.values.entries);
  done : MembersMatch (pairs_view l.yielded) (members_view l.members.entries);
}
