use Rattle.std.proofs.Common.{◌≡◌, ◌++◌, drop, map}
use Rattle.dap_flat.specs.Marks.{Extends, id_at}
use Rattle.dap_stored.proofs.message.list_marks.Given as goal

-- the ids so far and those of the remaining marks are all ids
abbrev pub invariant-loop-mark : goal.invariant-loop-mark
invariant-loop-mark l = record {
  all : l.found.items ++ map id_at (drop l.mark-index l.marks)
      ≡ l.initial.found.items ++ map id_at l.marks;
  more : Extends l.initial.found.items l.found.items;
}
