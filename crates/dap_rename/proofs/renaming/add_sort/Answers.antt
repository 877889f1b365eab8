use Rattle.std.proofs.Common.{arith, ◌≡◌, ◌+◌, ◌++◌, suc, subst}
use Rattle.std.proofs.lemmas.Result.{on_ok_weaker}
use Rattle.dap_rename.specs.Messages.{class_after, first_classes}
use Rattle.dap_rename.specs.Names.{numbers_at, stops_of}
use Rattle.dap_rename.specs.Pairs.{entries, names_of_classes}
use Rattle.dap_rename.proofs.PairFaults.{class_step}
use Rattle.dap_rename.proofs.renaming.add_sort.Goals as goal

pub loop-stop-preserved : goal.loop-stop-preserved
loop-stop-preserved g c =
    let from = numbers_at g.T.NameTable.numbers c.args.from.now in
    let to = numbers_at g.T.NameTable.numbers c.args.to.now in
    let k = c.loop-stop.stop in
    let next : suc k ≡ k + 1 = omega arith in
    subst (λ n. entries c.add_class.new.pairs.items ≡ entries c.args.pairs.now.items
    ++ names_of_classes (first_classes c.args.sort n) from to) next
    (class_step c.args.sort k from to (entries c.args.pairs.now.items)
    (entries c.loop-stop.pairs.items) (entries c.add_class.new.pairs.items) c.loop-stop.invariant
    c.in_ok-add_class.ensures.added)

pub returns-clause-added : goal.returns-clause-added
returns-clause-added g c =
    let from = numbers_at g.T.NameTable.numbers c.args.from.now in
    let to = numbers_at g.T.NameTable.numbers c.args.to.now in
    let all : c.loop-stop.stop ≡ c.last-last.result =
    omega (arith, c.loop-stop-test.false, c.loop-stop.auto.stop-end) in
    let last : c.last-last.result ≡ (class_after (stops_of c.args.from.now) c.args.sort).1 =
    c.last-last.ensures in
    let before : entries c.loop-stop.pairs.items ≡ entries c.args.pairs.now.items
    ++ names_of_classes (first_classes c.args.sort c.last-last.result) from to =
    subst (λ n. entries c.loop-stop.pairs.items ≡ entries c.args.pairs.now.items
    ++ names_of_classes (first_classes c.args.sort n) from to) all c.loop-stop.invariant in
    on_ok_weaker c.add_class-2.result
    (λ h. subst (λ n. entries c.add_class-2.new.pairs.items ≡ entries c.args.pairs.now.items
    ++ names_of_classes (first_classes c.args.sort (suc n)) from to) last
    (class_step c.args.sort c.last-last.result from to (entries c.args.pairs.now.items)
    (entries c.loop-stop.pairs.items) (entries c.add_class-2.new.pairs.items) before h))
    c.add_class-2.ensures.added
