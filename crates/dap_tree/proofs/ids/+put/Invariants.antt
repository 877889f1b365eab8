use Rattle.std.proofs.Common.{◌≡◌, ◌+◌, ◌*◌, ◌≤◌, drop, take}
use Rattle.dap_tree.specs.Doc.{items_depth}
use Rattle.dap_tree.specs.Ids.{items_with_ids, items_id_count}
use Rattle.dap_tree.specs.View.{items_view}
use Rattle.dap_tree.proofs.Joins.{items_join}
use Rattle.dap_tree.proofs.ids.+put.Given as goal

abbrev pub decreases-put_members-retain : goal.decreases-put_members-retain
decreases-put_members-retain l = 3 * l.levels + 1

abbrev pub decreases-put : goal.decreases-put
decreases-put l = 3 * l.levels

abbrev pub decreases-put_items : goal.decreases-put_items
decreases-put_items l = 3 * l.levels + 1

abbrev pub decreases-put_members : goal.decreases-put_members
decreases-put_members l = 3 * l.levels + 2

-- the items before the index are processed, and those after it are unchanged
abbrev pub invariant-put_items-loop-item : goal.invariant-put_items-loop-item
invariant-put_items-loop-item l = record {
  shallow : items_depth (items_view (drop l.item-index l.item-items)) ≤ l.levels;
  done : items_join (take l.item-index l.item-items)
      (items_with_ids (items_view (drop l.item-index l.item-items)) l.rest)
      ≡ items_with_ids (items_view l.initial.item-items) l.numbers;
  left : drop (items_id_count (items_view (drop l.item-index l.item-items))) l.rest
      ≡ drop (items_id_count (items_view l.initial.item-items)) l.numbers;
}
