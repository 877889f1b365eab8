use Rattle.std.proofs.Common.{◌≡◌, ◌+◌, ◌*◌, ◌++◌, string_cmp}
use Rattle.std.specs.Map.{keys_of}
use Rattle.std.specs.List.Sorted.{IsStrictlySortedBy}
use Rattle.std.specs.Vec.Iter.{into_iter_items}
use Rattle.dap_tree.specs.View.{items_view, members_view}
use Rattle.dap_naming.specs.Documents.{items_ids, members_ids, named_items, named_members}
use Rattle.dap_naming.specs.Known.{Names, ByTable, FitsLimit, limit_of}
use Rattle.dap_naming.specs.DeclaredRules.{rules_of}
use Rattle.dap_naming.proofs.Choosing.{weight}
use Rattle.dap_naming.proofs.trees.+named.Given as goal

abbrev pub decreases-named : goal.decreases-named
decreases-named l = 2 * weight (rules_of l.rules.now) + 1

abbrev pub decreases-named_items : goal.decreases-named_items
decreases-named_items l = 2 * weight (rules_of l.rules.now)

abbrev pub decreases-named_members : goal.decreases-named_members
decreases-named_members l = 2 * weight (rules_of l.rules.now)

-- the elements so far are named
abbrev pub invariant-named_items-loop-item : goal.invariant-named_items-loop-item
invariant-named_items-loop-item l = record {
  all : l.fn.items.items ≡ l.yielded ++ into_iter_items l.item-iterator;
  done : Names l.initial.numbers l.numbers (items_ids (rules_of l.rules) (items_view l.yielded))
      (λ n. items_view l.list.items ≡ named_items (rules_of l.rules) n (items_view l.yielded));
  table : ByTable l.initial.numbers l.numbers
      (λ n. items_view l.list.items ≡ named_items (rules_of l.rules) n (items_view l.yielded));
  few : FitsLimit l.initial.numbers (items_ids (rules_of l.rules) (items_view l.yielded));
  limit : limit_of l.numbers ≡ limit_of l.initial.numbers;
}

-- the members so far are named
abbrev pub invariant-named_members-loop-name : goal.invariant-named_members-loop-name
invariant-named_members-loop-name l = record {
  all : l.fn.members.entries ≡ l.yielded ++ l.name-iterator;
  ordered : IsStrictlySortedBy string_cmp (keys_of l.fn.members.entries);
  done : Names l.initial.numbers l.numbers
      (members_ids (rules_of l.rules) (members_view l.yielded))
      (λ n. members_view l.object.entries
      ≡ named_members (rules_of l.rules) n (members_view l.yielded));
  table : ByTable l.initial.numbers l.numbers (λ n. members_view l.object.entries
      ≡ named_members (rules_of l.rules) n (members_view l.yielded));
  few : FitsLimit l.initial.numbers (members_ids (rules_of l.rules) (members_view l.yielded));
  limit : limit_of l.numbers ≡ limit_of l.initial.numbers;
}
