use Rattle.dap_tree.specs.Doc.{map_items}
use Rattle.dap_tree.specs.View.{items_view}
use Rattle.dap_tree.proofs.Joins.{items_join}
use Rattle.std.proofs.Common.{◌≡◌, ◌+◌, ◌*◌, drop, take, length, option_map}
use Rattle.dap_mask.specs.Fills.{fill_of, set_value}
use Rattle.dap_mask.specs.RuleSteps.{change_at_place, change_called}
use Rattle.dap_mask.specs.Rules.{place_of}
use Rattle.dap_mask.proofs.filling.+fill_path.Given as goal

abbrev pub decreases-fill_path : goal.decreases-fill_path
decreases-fill_path l = 5 * length l.path.now

abbrev pub decreases-fill_step : goal.decreases-fill_step
decreases-fill_step l = 5 * length l.path.now + 4

abbrev pub decreases-fill_below : goal.decreases-fill_below
decreases-fill_below l = 5 * length l.path.now + 1

abbrev pub decreases-fill_list : goal.decreases-fill_list
decreases-fill_list l = 5 * length l.path.now + 3

abbrev pub decreases-fill_each : goal.decreases-fill_each
decreases-fill_each l = 5 * length l.path.now + 2

abbrev pub decreases-fill_element : goal.decreases-fill_element
decreases-fill_element l = 5 * length l.path.now + 1

-- the items before the index are filled, and the items from the index on are unchanged
abbrev pub invariant-fill_each-loop-item : goal.invariant-fill_each-loop-item
invariant-fill_each-loop-item l =
    let f = change_called (option_map (λ s. s.now) l.name)
    (change_at_place (place_of l.path) (set_value (fill_of l.rule))) in
    items_join (take l.item-index l.item-items) (map_items f
    (items_view (drop l.item-index l.item-items)))
    ≡ map_items f (items_view l.initial.item-items)
