use Rattle.std.proofs.Common.{◌≡◌, ◌++◌}
use Rattle.dap_rename.specs.Messages.{first_classes}
use Rattle.dap_rename.specs.Names.{numbers_at}
use Rattle.dap_rename.specs.Pairs.{entries, names_of_classes}
use Rattle.dap_rename.proofs.renaming.add_sort.Given as goal

abbrev pub invariant-loop-stop : goal.invariant-loop-stop
invariant-loop-stop g l =
    entries l.pairs.items
    ≡ entries l.initial.pairs.items
    ++ names_of_classes (first_classes l.sort l.stop) (numbers_at g.T.NameTable.numbers l.from)
    (numbers_at g.T.NameTable.numbers l.to)
