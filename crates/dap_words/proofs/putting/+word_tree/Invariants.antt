use Rattle.std.proofs.Common.{◌≡◌, ◌++◌, string_cmp}
use Rattle.std.specs.Map.{keys_of}
use Rattle.std.specs.List.Sorted.{IsStrictlySortedBy}
use Rattle.std.specs.Vec.Iter.{into_iter_items}
use Rattle.dap_words.specs.Words.{pairs_of}
use Rattle.dap_tree.specs.View.{items_view, members_view}
use Rattle.dap_words.specs.Worded.{items_worded, members_worded}
use Rattle.dap_words.proofs.putting.+word_tree.Given as goal

-- the items so far are those that were read, with words
abbrev pub invariant-word_items-loop-item : goal.invariant-word_items-loop-item
invariant-word_items-loop-item l = record {
  all : l.fn.items.items ≡ l.yielded ++ into_iter_items l.item-iterator;
  done : items_view l.worded.items ≡ items_worded (pairs_of l.fn.words) (items_view l.yielded);
}

abbrev pub invariant-word_members-loop-name : goal.invariant-word_members-loop-name
invariant-word_members-loop-name l = record {
  all : l.fn.members.entries ≡ l.yielded ++ l.name-iterator;
  ordered : IsStrictlySortedBy string_cmp (keys_of l.fn.members.entries);
  done : members_view l.worded.entries
      ≡ members_worded (pairs_of l.fn.words) l.fn.is_message (members_view l.yielded);
}
