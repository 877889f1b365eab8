use Rattle.std.proofs.Common.{◌-◌, ◌≤◌, length}
use Rattle.dap_flat.specs.Placing.{IsBetween}
use Rattle.dap_flat.proofs.place.position.Given as goal

abbrev pub invariant-loop-p : goal.invariant-loop-p
invariant-loop-p l = (l.p ≤ length l.held) × IsBetween l.held l.name l.p

abbrev pub decreases-loop-p : goal.decreases-loop-p
decreases-loop-p l = length l.held - l.p
