use Rattle.std.proofs.Common.{◌≡◌, ◌++◌, List, take, map}
use Rattle.dap_tree.specs.View.{view, members_view}
use Rattle.dap_tree.proofs.Views.{Entry}
use Rattle.dap_tree.proofs.copy.+copy_tree.Given as goal

abbrev pub invariant-copy_items-loop-item : goal.invariant-copy_items-loop-item
invariant-copy_items-loop-item l =
    map view l.copies.items ≡ map view (take l.item-index l.item-items)

abbrev pub invariant-copy_members-loop-name : goal.invariant-copy_members-loop-name
invariant-copy_members-loop-name l = (done : List Entry)
    × (l.members.entries ≡ done ++ l.name-iterator)
    × (members_view l.copies.entries ≡ members_view done)
