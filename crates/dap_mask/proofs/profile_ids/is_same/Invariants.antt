use Rattle.std.proofs.Common.{◌≡◌, drop}
use Rattle.dap_mask.specs.RuleSteps.{plain_place}
use Rattle.dap_mask.specs.Rules.{place_of, same_place}
use Rattle.dap_mask.specs.RowSteps.{row_place_of}
use Rattle.dap_mask.proofs.profile_ids.is_same.Given as goal

-- the places are the same if and only if their remaining steps are the same
abbrev pub invariant-loop-step : goal.invariant-loop-step
invariant-loop-step l =
    same_place (plain_place (place_of (drop l.step-index l.place))) (row_place_of l.rest)
    ≡ same_place (plain_place (place_of l.place)) (row_place_of l.row_place)
