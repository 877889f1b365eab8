use Rattle.std.proofs.Common.{◌≡◌, ◌++◌, List, map}
use Rattle.dap_join.specs.Joined.{joined_output}
use Rattle.dap_join.specs.JoiningSteps.{Writes, group_shown}
use Rattle.dap_join.proofs.GroupMaps.{Entry}
use Rattle.dap_join.proofs.writing.Writing.push_groups.Given as goal

-- the groups before the iterator are written
abbrev pub invariant-loop-category : goal.invariant-loop-category
invariant-loop-category l = record {
  done : List Entry;
  split : l.groups.entries ≡ done ++ l.category-iterator;
  writes : Writes l.fn.limits l.initial.self l.self (map joined_output (map group_shown done));
}
