use Rattle.std.proofs.Common.{rules, arith, ◌≡◌, ◌<◌, ◌++◌, ◌∷◌, [], pos, suc, length, ◌+ℤ◌, to_z}
use Rattle.std.proofs.Common.{of_z, w64}
use Rattle.std.proofs.lemmas.Int.{ints}
use Rattle.dap_rename.proofs.TableContents.{numbers_step}
use Rattle.dap_rename.proofs.past.numbers_of.Goals as goal

pub loop-index-preserved : goal.loop-index-preserved
loop-index-preserved g c =
    let xs = g.T.NameTable.numbers c.args.table.now in
    let k = c.loop-index.index in
    let within : k < length xs = omega (arith, c.loop-index-test.true, c.len-index-end.ensures) in
    let place : to_z w64 (of_z w64 (to_z w64 k +ℤ pos 1)) ≡ pos (suc k) =
    omega (
      arith,
      ints,
      within,
      g.met.T.NameTable.bounded c.args.table.now,
      g.met.T.NameTable.small c.args.table.now,
    ) in
    let pushed : c.push.new.self.items ≡ c.loop-index.numbers.items ++ c.at.result ∷ [] =
    search rules in
    numbers_step xs k c.loop-index.numbers.items c.push.new.self.items c.at.result within
    c.loop-index.invariant (c.at.ensures k place) pushed
