use Rattle.std.proofs.Common.{rules, ◌≤◌, length}
use Rattle.dap_rename.proofs.CarriesTest.{items_at_end}
use Rattle.dap_rename.proofs.carries.+carries_tree.Goals as goal

pub carries_items-returns : goal.carries_items-returns
carries_items-returns t c =
    let ended : length c.deref-item-items.result.now ≤ c.loop-item.item-index = search rules in
    items_at_end c.args.renaming.now.pairs.items c.args.stops c.deref-item-items.result.now
    c.loop-item.rest.now
    c.loop-item.item-index c.is_empty.result c.args.from.now.items c.args.to.now.items ended
    c.loop-item.invariant c.deref-item-items.ensures.value c.is_empty.ensures
