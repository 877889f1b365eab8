use Rattle.std.proofs.Common.{length, ◌*◌, ◌+◌, ◌-◌}
use Rattle.dap_flat_message.specs.{Heads.text_in, Marking.IsSoFar}
use Rattle.dap_mask.specs.RuleSteps.{change_at_place, change_called}
use Rattle.dap_mask.specs.Rules.{of_verb, place_of}
use Rattle.dap_mask.proofs.flat_places.+mask_path.Given as goal

abbrev pub decreases-mask_path : goal.decreases-mask_path
decreases-mask_path l = 5 * length l.path.now

abbrev pub decreases-mask_step : goal.decreases-mask_step
decreases-mask_step l = 5 * length l.path.now + 4

abbrev pub decreases-mask_below : goal.decreases-mask_below
decreases-mask_below l = 5 * length l.path.now + 1

abbrev pub decreases-mask_list : goal.decreases-mask_list
decreases-mask_list l = 5 * length l.path.now + 3

abbrev pub decreases-mask_each : goal.decreases-mask_each
decreases-mask_each l = 5 * length l.path.now + 2

abbrev pub decreases-mask_element : goal.decreases-mask_element
decreases-mask_element l = 5 * length l.path.now + 1

abbrev pub invariant-mask_each-loop-p : goal.invariant-mask_each-loop-p
invariant-mask_each-loop-p l =
    IsSoFar l.initial.nodes l.nodes l.from l.p
    (change_called (text_in l.name) (change_at_place (place_of l.path) (of_verb l.verb)))

abbrev pub decreases-mask_each-loop-p : goal.decreases-mask_each-loop-p
decreases-mask_each-loop-p l = length l.nodes - l.p
