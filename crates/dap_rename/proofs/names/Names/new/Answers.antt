use Rattle.std.proofs.Common.{◌≡◌, []}
use Rattle.dap_rename.specs.Modes.{stop_in}
use Rattle.dap_rename.specs.Tables.{table_of}
use Rattle.dap_rename.proofs.AllSorts.{at_sort}
use Rattle.dap_rename.proofs.TableContents.{stand_new}
use Rattle.dap_rename.proofs.names.Names.new.Goals as goal

pub returns-clause-represents : goal.returns-clause-represents
returns-clause-represents g c =
    stand_new (stop_in c.args.mode) g.T.NameTable.numbers g.T.NameTable.limit _ c.new.ensures.items
    (at_sort (λ r. g.T.NameTable.numbers (table_of c.args.tables r) ≡ []) c.requires)
