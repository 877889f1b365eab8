use Rattle.std.proofs.Common.{◌≡◌, option_map}
use Rattle.dap_mask.specs.RuleText.{steps_from, place_at}
use Rattle.dap_mask.specs.Rules.{place_of}
use Rattle.dap_mask.proofs.Lines.{with_steps}
use Rattle.dap_mask.proofs.places.place_at.Given as goal

-- the steps so far and the remaining steps are all steps
abbrev pub invariant-loop-left : goal.invariant-loop-left
invariant-loop-left l =
    option_map (with_steps (place_of l.steps.items)) (steps_from l.left l.rest) ≡ place_at l.text

abbrev pub decreases-loop-left : goal.decreases-loop-left
decreases-loop-left l = l.left
