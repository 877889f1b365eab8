use Rattle.std.proofs.Common.{◌≡◌, drop}
use Rattle.dap_mask.specs.Rules.{place_of, same_rule_place}
use Rattle.dap_mask.proofs.meets.same_rule_place.Given as goal

-- the places are the same if and only if their remaining steps are the same
abbrev pub invariant-loop-step : goal.invariant-loop-step
invariant-loop-step l =
    same_rule_place (place_of (drop l.step-index l.place)) (place_of l.rest)
    ≡ same_rule_place (place_of l.place) (place_of l.other)
