use Rattle.std.proofs.Common.{take}
use Rattle.dap_rename.specs.Pairs.{AreRenaming}
use Rattle.dap_rename.proofs.renaming.first_fault.Given as goal

abbrev pub invariant-loop-index : goal.invariant-loop-index
invariant-loop-index l = AreRenaming (take l.index l.pairs)
