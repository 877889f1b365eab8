use Rattle.std.proofs.Common.{◌≡◌, drop}
use Rattle.dap_mask.specs.Fills.{is_start}
use Rattle.dap_mask.specs.RuleSteps.{plain_place}
use Rattle.dap_mask.specs.Rules.{place_of}
use Rattle.dap_mask.proofs.fills.is_start.Given as goal

-- the remaining steps decide
abbrev pub invariant-loop-step : goal.invariant-loop-step
invariant-loop-step l =
    is_start (plain_place (place_of (drop l.step-index l.place))) (plain_place (place_of l.rest))
    ≡ is_start (plain_place (place_of l.place)) (plain_place (place_of l.other))
