use Rattle.std.proofs.Common.{◌≡◌, take}
use Rattle.dap_rename.proofs.past.numbers_of.Given as goal

abbrev pub invariant-loop-index : goal.invariant-loop-index
invariant-loop-index g l = l.numbers.items ≡ take l.index (g.T.NameTable.numbers l.table)
