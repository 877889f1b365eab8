use Rattle.dap_order.proofs.Planning.{has_parts, well_formed, is_plan}
use Rattle.dap_order.proofs.message_plan.plan_of.Goals as goal

pub returns-clause-well_formed : goal.returns-clause-well_formed
returns-clause-well_formed g c =
    well_formed c.args.table.now _ c.in_ok-groups.field-0.firsts.items
    (has_parts c.args.table.now _ c.in_ok-groups.field-0.firsts.items c.as_slice-entries.result.now
    c.deref.result.now c.as_slice-entries.ensures.value
    c.deref.ensures.value
    c.in_ok-groups.ensures c.in_ok-blocks_of.ensures c.in_ok-after_of.ensures.len
    c.in_ok-after_of.ensures.covers c.in_ok-places_by_key.ensures.once
    c.in_ok-places_by_key.ensures.by_key)

pub returns-clause-plan : goal.returns-clause-plan
returns-clause-plan g c =
    is_plan c.args.table.now _ c.in_ok-groups.field-0.firsts.items
    (has_parts c.args.table.now _ c.in_ok-groups.field-0.firsts.items c.as_slice-entries.result.now
    c.deref.result.now c.as_slice-entries.ensures.value
    c.deref.ensures.value
    c.in_ok-groups.ensures c.in_ok-blocks_of.ensures c.in_ok-after_of.ensures.len
    c.in_ok-after_of.ensures.covers c.in_ok-places_by_key.ensures.once
    c.in_ok-places_by_key.ensures.by_key)
