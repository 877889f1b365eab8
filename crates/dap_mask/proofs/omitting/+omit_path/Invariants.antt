use Rattle.dap_tree.specs.Doc.{map_items}
use Rattle.dap_tree.specs.View.{items_view}
use Rattle.dap_tree.proofs.Joins.{items_join}
use Rattle.std.proofs.Common.{◌≡◌, ◌+◌, ◌*◌, drop, take, length, option_map}
use Rattle.dap_mask.specs.Omissions.{without}
use Rattle.dap_mask.specs.RuleSteps.{change_at_place, change_called}
use Rattle.dap_mask.specs.Rules.{place_of, step_of}
use Rattle.dap_mask.proofs.omitting.+omit_path.Given as goal

abbrev pub decreases-omit_path : goal.decreases-omit_path
decreases-omit_path l = 5 * length l.path.now

abbrev pub decreases-omit_step : goal.decreases-omit_step
decreases-omit_step l = 5 * length l.path.now + 4

abbrev pub decreases-omit_below : goal.decreases-omit_below
decreases-omit_below l = 5 * length l.path.now + 1

abbrev pub decreases-omit_in_items : goal.decreases-omit_in_items
decreases-omit_in_items l = 5 * length l.path.now + 3

abbrev pub decreases-omit_in_each : goal.decreases-omit_in_each
decreases-omit_in_each l = 5 * length l.path.now + 2

abbrev pub decreases-omit_in_element : goal.decreases-omit_in_element
decreases-omit_in_element l = 5 * length l.path.now + 1

-- the items before the index have lost elements, and the items from the index on are unchanged
abbrev pub invariant-omit_in_each-loop-item : goal.invariant-omit_in_each-loop-item
invariant-omit_in_each-loop-item l =
    let f = change_called (option_map (λ s. s.now) l.name)
    (change_at_place (place_of l.path) (without (step_of l.last))) in
    items_join (take l.item-index l.item-items) (map_items f
    (items_view (drop l.item-index l.item-items)))
    ≡ map_items f (items_view l.initial.item-items)
