use Rattle.std.proofs.Common.{◌≡◌, take}
use Rattle.std.specs.List.{flat_map}
use Rattle.dap_rename.specs.Messages.{classes_of_sort}
use Rattle.dap_rename.specs.Names.{numbers_at, stops_of}
use Rattle.dap_rename.specs.Pairs.{entries, names_of_classes}
use Rattle.dap_rename.specs.Sorts.{all_sorts}
use Rattle.dap_rename.proofs.renaming.Renaming.between.Given as goal

abbrev pub invariant-loop-sort : goal.invariant-loop-sort
invariant-loop-sort g l =
    entries l.pairs.items
    ≡ names_of_classes (flat_map (classes_of_sort (stops_of l.from)) (take l.sort-index all_sorts))
    (numbers_at g.T.NameTable.numbers l.from) (numbers_at g.T.NameTable.numbers l.to)
