use Rattle.dap_tree.specs.Doc.{map_items}
use Rattle.dap_tree.specs.View.{items_view}
use Rattle.dap_tree.proofs.Joins.{items_join}
use Rattle.std.proofs.Common.{◌≡◌, ◌+◌, ◌*◌, drop, take, length}
use Rattle.dap_message.specs.Marks.{edit, marked}
use Rattle.dap_message.specs.Steps.{place_of}
use Rattle.dap_message.proofs.marks.+mark_path.Given as goal

abbrev pub decreases-mark_path : goal.decreases-mark_path
decreases-mark_path l = 3 * length l.path.now

abbrev pub decreases-mark_below : goal.decreases-mark_below
decreases-mark_below l = 3 * length l.path.now + 1

abbrev pub decreases-mark_list : goal.decreases-mark_list
decreases-mark_list l = 3 * length l.path.now + 2

abbrev pub decreases-mark_each : goal.decreases-mark_each
decreases-mark_each l = 3 * length l.path.now + 1

-- the items before the index are processed, and those after it are unchanged
abbrev pub invariant-mark_each-loop-item : goal.invariant-mark_each-loop-item
invariant-mark_each-loop-item l =
    items_join (take l.item-index l.item-items)
    (map_items (edit (place_of l.path) (marked l.sort))
    (items_view (drop l.item-index l.item-items)))
    ≡ map_items (edit (place_of l.path) (marked l.sort)) (items_view l.initial.item-items)
