use Rattle.std.proofs.Common.{◌≡◌, drop}
use Rattle.dap_mask.specs.Rules.{place_of, is_name_in}
use Rattle.dap_mask.proofs.element_names.is_name_in.Given as goal

-- the remaining steps decide
abbrev pub invariant-loop-step : goal.invariant-loop-step
invariant-loop-step l =
    is_name_in (place_of l.rest) (place_of (drop l.step-index l.other))
    ≡ is_name_in (place_of l.place) (place_of l.other)
