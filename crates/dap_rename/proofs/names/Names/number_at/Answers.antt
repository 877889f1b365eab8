use Rattle.std.proofs.Common.{rules, arith, ◌≡◌, ◌∙◌, ◌<◌, sym, ap, pos, suc, length, get_or, ◌+ℤ◌}
use Rattle.std.proofs.Common.{to_z}
use Rattle.std.proofs.Common.{of_z, w64}
use Rattle.std.proofs.lemmas.Int.{ints, to_z-of_z}
use mir.Val.{SFits}
use Rattle.dap_rename.specs.Names.{numbers_at, past_lists}
use Rattle.dap_rename.specs.Tables.{table_of}
use Rattle.dap_rename.proofs.TableContents.{last_list}
use Rattle.dap_rename.proofs.names.Names.number_at.Goals as goal

pub returns-in-None : goal.returns-in-None
returns-in-None g c =
    let names = c.args.self.now in
    let sort = c.args.sort in
    let numbers = g.T.NameTable.numbers in
    let i = c.args.index in
    let last : numbers_at numbers names (sort, c.args.stop) ≡ numbers (table_of names.tables sort) =
    last_list (past_lists names.past.items sort) (numbers (table_of names.tables sort)) c.args.stop
    i c.in-None.ensures c.requires in
    let is : numbers_at numbers names (sort, c.args.stop) ≡ numbers c.table.result.now =
    last ∙ ap numbers (sym c.table.ensures) in
    let within : i < length (numbers c.table.result.now) = omega (arith, c.requires, ap length is)
    in
    let place : to_z w64 (of_z w64 (to_z w64 i +ℤ pos 1)) ≡ pos (suc i) =
    omega (
      arith,
      ints,
      within,
      g.met.T.NameTable.bounded c.table.result.now,
      g.met.T.NameTable.small c.table.result.now,
    ) in
    let found : c.at.result ≡ get_or (numbers c.table.result.now) i (pos 0) =
    c.at.ensures i place in
    let fits : SFits w64 c.at.result = search rules in
    let same : to_z w64 (of_z w64 c.at.result) ≡ c.at.result = to_z-of_z w64 c.at.result fits in
    same ∙ found ∙ ap (λ xs. get_or xs i (pos 0)) (sym is)

pub overflow_cast-index : goal.overflow_cast-index
overflow_cast-index g c =
    let names = c.args.self.now in
    let sort = c.args.sort in
    let numbers = g.T.NameTable.numbers in
    let last : numbers_at numbers names (sort, c.args.stop) ≡ numbers (table_of names.tables sort) =
    last_list (past_lists names.past.items sort) (numbers (table_of names.tables sort)) c.args.stop
    c.args.index c.in-None.ensures c.requires in
    let is : numbers_at numbers names (sort, c.args.stop) ≡ numbers c.table.result.now =
    last ∙ ap numbers (sym c.table.ensures) in
    let within : c.args.index < length (numbers c.table.result.now) =
    omega (arith, c.requires, ap length is) in
    omega (
      arith,
      ints,
      within,
      g.met.T.NameTable.bounded c.table.result.now,
      g.met.T.NameTable.small c.table.result.now,
    )

pub overflow_add-index : goal.overflow_add-index
overflow_add-index g c =
    let names = c.args.self.now in
    let sort = c.args.sort in
    let numbers = g.T.NameTable.numbers in
    let last : numbers_at numbers names (sort, c.args.stop) ≡ numbers (table_of names.tables sort) =
    last_list (past_lists names.past.items sort) (numbers (table_of names.tables sort)) c.args.stop
    c.args.index c.in-None.ensures c.requires in
    let is : numbers_at numbers names (sort, c.args.stop) ≡ numbers c.table.result.now =
    last ∙ ap numbers (sym c.table.ensures) in
    let within : c.args.index < length (numbers c.table.result.now) =
    omega (arith, c.requires, ap length is) in
    omega (
      arith,
      ints,
      within,
      g.met.T.NameTable.bounded c.table.result.now,
      g.met.T.NameTable.small c.table.result.now,
    )

pub at-requires-clause-first : goal.at-requires-clause-first
at-requires-clause-first g c =
    let names = c.args.self.now in
    let sort = c.args.sort in
    let numbers = g.T.NameTable.numbers in
    let last : numbers_at numbers names (sort, c.args.stop) ≡ numbers (table_of names.tables sort) =
    last_list (past_lists names.past.items sort) (numbers (table_of names.tables sort)) c.args.stop
    c.args.index c.in-None.ensures c.requires in
    let is : numbers_at numbers names (sort, c.args.stop) ≡ numbers c.table.result.now =
    last ∙ ap numbers (sym c.table.ensures) in
    let within : c.args.index < length (numbers c.table.result.now) =
    omega (arith, c.requires, ap length is) in
    omega (
      arith,
      ints,
      within,
      g.met.T.NameTable.bounded c.table.result.now,
      g.met.T.NameTable.small c.table.result.now,
    )

pub at-requires-clause-last : goal.at-requires-clause-last
at-requires-clause-last g c =
    let names = c.args.self.now in
    let sort = c.args.sort in
    let numbers = g.T.NameTable.numbers in
    let last : numbers_at numbers names (sort, c.args.stop) ≡ numbers (table_of names.tables sort) =
    last_list (past_lists names.past.items sort) (numbers (table_of names.tables sort)) c.args.stop
    c.args.index c.in-None.ensures c.requires in
    let is : numbers_at numbers names (sort, c.args.stop) ≡ numbers c.table.result.now =
    last ∙ ap numbers (sym c.table.ensures) in
    let within : c.args.index < length (numbers c.table.result.now) =
    omega (arith, c.requires, ap length is) in
    omega (
      arith,
      ints,
      within,
      g.met.T.NameTable.bounded c.table.result.now,
      g.met.T.NameTable.small c.table.result.now,
    )
