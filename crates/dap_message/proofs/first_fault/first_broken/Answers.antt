use Rattle.dap_tree.specs.View.{view}
use Rattle.std.proofs.Common.{◌∙◌, sym, map}
use Rattle.dap_profile.specs.ProfileRows.{row_of}
use Rattle.dap_message.proofs.AskedRows.{first-reported, first-rest}
use Rattle.dap_message.proofs.first_fault.first_broken.Goals as goal

pub returns-then-is_some : goal.returns-then-is_some
returns-then-is_some c = sym
    (c.loop-rows.invariant
    ∙ first-reported (λ rs. map row_of rs.now) c.args.stretches.now c.loop-rows.rows-index _
    (view c.args.tree.now) _ c.loop-rows-test.true c.first_of-fault.ensures
    (sym c.is_some.ensures ∙ c.if-is_some.true))

pub loop-rows-preserved : goal.loop-rows-preserved
loop-rows-preserved c =
    c.loop-rows.invariant
    ∙ first-rest (λ rs. map row_of rs.now) c.args.stretches.now c.loop-rows.rows-index _
    (view c.args.tree.now) _ c.loop-rows-test.true c.first_of-fault.ensures
    (sym c.is_some.ensures ∙ c.if-is_some.false)
