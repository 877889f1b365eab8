use Rattle.std.proofs.Common.{arith}
use Rattle.std.proofs.lemmas.Grind.{elements}
use Rattle.dap_rename.proofs.index_names.IndexNamesNameTable.at.Goals as goal

pub returns : goal.returns
returns g c = grind (arith, elements)
