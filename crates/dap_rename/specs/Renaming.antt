-- The model of a renaming.
use Rattle.std.specs.Prelude.{List}
use Rattle.dap_rename.specs.declared.pair.Pair.{Pair}
use Rattle.dap_rename.specs.declared.renaming.Renaming.{Renaming}

-- Its pairs, in order.
abbrev pub pairs_of : Renaming → List Pair
pairs_of r = r.pairs.items
