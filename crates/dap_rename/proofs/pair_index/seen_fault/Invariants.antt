use Rattle.std.proofs.Common.{take}
use Rattle.dap_rename.specs.PairIndex.{HasSeen}
use Rattle.dap_rename.specs.Pairs.{AreRenaming}
use Rattle.dap_rename.proofs.pair_index.seen_fault.Given as goal

abbrev pub invariant-loop-index : goal.invariant-loop-index
invariant-loop-index l = HasSeen l.seen (take l.index l.pairs) × AreRenaming (take l.index l.pairs)
