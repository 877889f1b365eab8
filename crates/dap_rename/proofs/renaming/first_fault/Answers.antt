use Rattle.std.proofs.Common.{◌∙◌, sym}
use Rattle.dap_rename.proofs.PairFaults.{first_found, no_pairs, none_found}
use Rattle.dap_rename.proofs.renaming.first_fault.Goals as goal

pub returns-then-is_some : goal.returns-then-is_some
returns-then-is_some c =
    first_found c.args.pairs.now c.loop-index.index _ c.fault_behind-fault.result
    c.loop-index-test.true c.loop-index.invariant c.fault_behind-fault.ensures
    (sym c.is_some.ensures ∙ c.if-is_some.true)

pub loop-index-init : goal.loop-index-init
loop-index-init c = no_pairs

pub loop-index-preserved : goal.loop-index-preserved
loop-index-preserved c =
    none_found c.args.pairs.now c.loop-index.index _ c.fault_behind-fault.result
    c.loop-index-test.true c.loop-index.invariant c.fault_behind-fault.ensures
    (sym c.is_some.ensures ∙ c.if-is_some.false)
