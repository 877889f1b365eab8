use Rattle.dap_rename.proofs.ListGrowth.{fit_tables, counts_fit, lists_cut}
use Rattle.dap_rename.proofs.tables.Tables.name_ids.Goals as goal

pub cut-requires : goal.cut-requires
cut-requires g c =
    counts_fit g.T.NameTable.numbers c.args.self.now c.name_all.new.self c.lengths-lengths.result
    c.lengths-lengths.ensures c.name_all.ensures.begins

pub returns-in-Err-clause-refused : goal.returns-in-Err-clause-refused
returns-in-Err-clause-refused g c =
    lists_cut g.T.NameTable.numbers c.args.self.now c.name_all.new.self c.cut.new.self
    c.lengths-lengths.result c.lengths-lengths.ensures c.name_all.ensures.begins c.cut.ensures.cut

pub returns-in-Ok-clause-fits : goal.returns-in-Ok-clause-fits
returns-in-Ok-clause-fits g c =
    rw (← c.name_all.ensures.same_limits, ← c.in-Ok.ensures.grown)
    (fit_tables g.T.NameTable.numbers g.T.NameTable.limit g.met.T.NameTable.bounded
    c.name_all.new.self)
