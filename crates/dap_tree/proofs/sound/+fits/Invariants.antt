use Rattle.std.proofs.Common.{◌≡◌, drop}
use Rattle.dap_tree.specs.Doc.{items_fit, members_fit}
use Rattle.dap_tree.specs.View.{items_view, members_view}
use Rattle.dap_tree.proofs.sound.+fits.Given as goal

-- the remaining items decide
abbrev pub invariant-items_fit-loop-item : goal.invariant-items_fit-loop-item
invariant-items_fit-loop-item l =
    items_fit l.levels (items_view (drop l.item-index l.item-items))
    ≡ items_fit l.levels (items_view l.item-items)

abbrev pub invariant-members_fit-loop-member : goal.invariant-members_fit-loop-member
invariant-members_fit-loop-member l =
    members_fit l.levels (members_view l.member-iterator)
    ≡ members_fit l.levels (members_view l.members.entries)
