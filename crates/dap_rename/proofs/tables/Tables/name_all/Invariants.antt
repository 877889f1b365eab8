use Rattle.std.proofs.Common.{◌≡◌, take}
use Rattle.dap_rename.specs.Tables.{lists, added_all, names_from, limits}
use Rattle.dap_rename.proofs.tables.Tables.name_all.Given as goal

abbrev pub invariant-loop-id : goal.invariant-loop-id
invariant-loop-id g l =
    record {
      named : l.names.items
          ≡ names_from (lists g.T.NameTable.numbers l.initial.self) (take l.id-index l.ids);
      grown : lists g.T.NameTable.numbers l.self
          ≡ added_all (lists g.T.NameTable.numbers l.initial.self) (take l.id-index l.ids);
      same_limits : limits g.T.NameTable.limit l.self ≡ limits g.T.NameTable.limit l.initial.self;
    }
