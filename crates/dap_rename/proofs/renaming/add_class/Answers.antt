use Rattle.std.proofs.Common.{rules, arith, ◌≡◌, ◌≤◌, ◌<◌, ◌++◌, ◌∷◌, [], length}
use Rattle.dap_rename.specs.Names.{numbers_at}
use Rattle.dap_rename.specs.Pairs.{entries}
use Rattle.dap_rename.proofs.PairFaults.{add_step, class_ended}
use Rattle.dap_rename.proofs.renaming.add_class.Goals as goal

pub loop-index-preserved : goal.loop-index-preserved
loop-index-preserved g c =
    let class = c.args.class in
    let xs = numbers_at g.T.NameTable.numbers c.args.from.now class in
    let ys = numbers_at g.T.NameTable.numbers c.args.to.now class in
    let k = c.loop-index.index in
    let within : k < length xs =
    omega (arith, c.loop-index-test.true, c.len_at-index-end.ensures) in
    let pushed : c.push.new.self.items
    ≡ c.loop-index.pairs.items
    ++ (record {
      sort = class.0;
      stop = class.1;
      from = c.number_at.result;
      to = c.number_at-in-loop-index.result;
    })
    ∷ [] = search rules in
    add_step class xs ys k (entries c.args.pairs.now.items) c.loop-index.pairs.items
    c.push.new.self.items c.number_at.result c.number_at-in-loop-index.result within
    (c.requires.classes class) c.number_at.ensures c.number_at-in-loop-index.ensures
    c.loop-index.invariant pushed

pub returns-clause-added : goal.returns-clause-added
returns-clause-added g c =
    let class = c.args.class in
    let xs = numbers_at g.T.NameTable.numbers c.args.from.now class in
    let ys = numbers_at g.T.NameTable.numbers c.args.to.now class in
    let ended : length xs ≤ c.loop-index.index =
    omega (arith, c.loop-index-test.false, c.len_at-index-end.ensures) in
    class_ended class xs ys c.loop-index.index (entries c.args.pairs.now.items)
    (entries c.loop-index.pairs.items) ended (c.requires.classes class) c.loop-index.invariant
