use Rattle.std.proofs.Common.{◌≡◌, drop}
use Rattle.dap_mask.specs.RuleSteps.{is_unnamed}
use Rattle.dap_mask.specs.Rules.{place_of}
use Rattle.dap_mask.proofs.fills.is_unnamed.Given as goal

-- the remaining steps decide
abbrev pub invariant-loop-step : goal.invariant-loop-step
invariant-loop-step l =
    is_unnamed (place_of (drop l.step-index l.place)) ≡ is_unnamed (place_of l.place)
