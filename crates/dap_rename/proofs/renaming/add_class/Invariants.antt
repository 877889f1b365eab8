use Rattle.std.proofs.Common.{◌≡◌, ◌++◌, take}
use Rattle.dap_rename.specs.Names.{numbers_at}
use Rattle.dap_rename.specs.Pairs.{entries}
use Rattle.dap_rename.specs.Renamings.{pairs_of_class}
use Rattle.dap_rename.proofs.renaming.add_class.Given as goal

abbrev pub invariant-loop-index : goal.invariant-loop-index
invariant-loop-index g l =
    entries l.pairs.items
    ≡ entries l.initial.pairs.items
    ++ pairs_of_class (l.sort, l.stop)
    (take l.index (numbers_at g.T.NameTable.numbers l.from (l.sort, l.stop)))
    (take l.index (numbers_at g.T.NameTable.numbers l.to (l.sort, l.stop)))
