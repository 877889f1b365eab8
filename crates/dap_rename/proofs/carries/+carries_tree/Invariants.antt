use Rattle.std.proofs.Common.{◌≡◌, drop}
use Rattle.dap_tree.specs.View.{items_view, members_view}
use Rattle.dap_rename.specs.Carrying.{carries_items, carries_members}
use Rattle.dap_rename.proofs.carries.+carries_tree.Given as goal

-- the remaining items have the same result as all items
abbrev pub invariant-carries_items-loop-item : goal.invariant-carries_items-loop-item
invariant-carries_items-loop-item l =
    let ps = l.renaming.pairs.items in
    carries_items ps l.stops (items_view (drop l.item-index l.item-items)) (items_view l.rest)
    ≡ carries_items ps l.stops (items_view l.item-items) (items_view l.fn.to.items)

abbrev pub invariant-carries_members-loop-name : goal.invariant-carries_members-loop-name
invariant-carries_members-loop-name l =
    let ps = l.renaming.pairs.items in
    carries_members ps l.stops (members_view l.name-iterator) (members_view l.rest)
    ≡ carries_members ps l.stops (members_view l.fn.from.entries) (members_view l.fn.to.entries)
