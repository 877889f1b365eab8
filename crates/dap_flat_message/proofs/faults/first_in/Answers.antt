use Rattle.std.proofs.Common.{◌∙◌, sym, map}
use Rattle.dap_profile.specs.ProfileRows.{row_of}
use Rattle.dap_message.proofs.AskedRows.{first-reported, first-rest}
use Rattle.dap_flat_message.proofs.faults.first_in.Goals as goal

pub returns-then-is_some : goal.returns-then-is_some
returns-then-is_some c d h = sym
    (c.loop-rows.invariant d h
    ∙ first-reported (λ rs. map row_of rs.now) c.args.stretches.now c.loop-rows.rows-index _
    d _ c.loop-rows-test.true (c.in_ok-fault.ensures d h)
    (sym c.is_some.ensures ∙ c.if-is_some.true))

pub loop-rows-preserved : goal.loop-rows-preserved
loop-rows-preserved c d h =
    c.loop-rows.invariant d h
    ∙ first-rest (λ rs. map row_of rs.now) c.args.stretches.now c.loop-rows.rows-index _
    d _ c.loop-rows-test.true (c.in_ok-fault.ensures d h)
    (sym c.is_some.ensures ∙ c.if-is_some.false)
