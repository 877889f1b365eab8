use Rattle.std.proofs.Common.{◌≡◌, drop}
use Rattle.dap_mask.specs.Rules.{place_of, share_place}
use Rattle.dap_mask.proofs.meets.share_place.Given as goal

-- the places may lead to one value if and only if their remaining steps may
abbrev pub invariant-loop-step : goal.invariant-loop-step
invariant-loop-step l =
    share_place (place_of (drop l.step-index l.place)) (place_of l.rest)
    ≡ share_place (place_of l.place) (place_of l.other)
