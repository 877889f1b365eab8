use Rattle.dap_tree.specs.Doc.{map_items}
use Rattle.dap_tree.specs.View.{items_view}
use Rattle.dap_tree.proofs.Joins.{items_join}
use Rattle.std.proofs.Common.{◌≡◌, ◌+◌, ◌*◌, drop, take, length, option_map}
use Rattle.dap_mask.specs.RuleSteps.{change_at_place, change_called}
use Rattle.dap_mask.specs.Rules.{place_of, of_verb}
use Rattle.dap_mask.proofs.masking.+mask_path.Given as goal

abbrev pub decreases-mask_path : goal.decreases-mask_path
decreases-mask_path l = 5 * length l.path.now

abbrev pub decreases-mask_step : goal.decreases-mask_step
decreases-mask_step l = 5 * length l.path.now + 4

abbrev pub decreases-mask_below : goal.decreases-mask_below
decreases-mask_below l = 5 * length l.path.now + 1

abbrev pub decreases-mask_list : goal.decreases-mask_list
decreases-mask_list l = 5 * length l.path.now + 3

abbrev pub decreases-mask_each : goal.decreases-mask_each
decreases-mask_each l = 5 * length l.path.now + 2

abbrev pub decreases-mask_element : goal.decreases-mask_element
decreases-mask_element l = 5 * length l.path.now + 1

-- the items before the index are masked, and the items from the index on are unchanged
abbrev pub invariant-mask_each-loop-item : goal.invariant-mask_each-loop-item
invariant-mask_each-loop-item l =
    let f = change_called (option_map (λ s. s.now) l.name)
    (change_at_place (place_of l.path) (of_verb l.verb)) in
    items_join (take l.item-index l.item-items) (map_items f
    (items_view (drop l.item-index l.item-items)))
    ≡ map_items f (items_view l.initial.item-items)
