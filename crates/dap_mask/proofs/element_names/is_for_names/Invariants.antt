use Rattle.std.proofs.Common.{◌≡◌, length}
use Rattle.dap_mask.specs.Rules.{place_of, is_for_names}
use Rattle.dap_mask.proofs.element_names.is_for_names.Given as goal

-- the remaining steps decide
abbrev pub invariant-loop-rest : goal.invariant-loop-rest
invariant-loop-rest l = is_for_names (place_of l.rest) ≡ is_for_names (place_of l.place)

abbrev pub decreases-loop-rest : goal.decreases-loop-rest
decreases-loop-rest l = length l.rest
