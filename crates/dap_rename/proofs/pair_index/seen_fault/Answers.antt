use Rattle.std.proofs.Common.{rules, ◌≤◌, ◌∙◌, length, subst, sym}
use Rattle.std.proofs.lemmas.List.{take_all}
use Rattle.dap_rename.specs.Pairs.{AreRenaming}
use Rattle.dap_rename.proofs.PairFaults.{no_pairs}
use Rattle.dap_rename.proofs.PairIndexing.{nothing_seen, fault_found, next_seen}
use Rattle.dap_rename.proofs.pair_index.seen_fault.Goals as goal

pub loop-index-init : goal.loop-index-init
loop-index-init c = (nothing_seen _ c.new.ensures.empty c.new-2.ensures.empty, no_pairs)

pub returns-then-is_some-clause-reported : goal.returns-then-is_some-clause-reported
returns-then-is_some-clause-reported c =
    fault_found c.loop-index.seen c.add.new.self c.args.pairs.now c.loop-index.index _
    c.in_ok-fault.fault c.loop-index-test.true c.loop-index.invariant.0 c.loop-index.invariant.1
    c.in_ok-fault.ensures (sym c.is_some.ensures ∙ c.if-is_some.true)

pub loop-index-preserved : goal.loop-index-preserved
loop-index-preserved c =
    next_seen c.loop-index.seen c.add.new.self c.args.pairs.now c.loop-index.index _
    c.in_ok-fault.fault c.loop-index-test.true c.loop-index.invariant.0 c.loop-index.invariant.1
    c.in_ok-fault.ensures (sym c.is_some.ensures ∙ c.if-is_some.false)

pub returns-clause-reported : goal.returns-clause-reported
returns-clause-reported c =
    let ended : length c.args.pairs.now ≤ c.loop-index.index = search rules in
    subst AreRenaming (take_all c.loop-index.index c.args.pairs.now ended)
    c.loop-index.invariant.1
