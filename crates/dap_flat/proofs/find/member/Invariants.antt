use Rattle.std.proofs.Common.{◌-◌, length}
use Rattle.dap_flat.specs.Finding.{IsLeft}
use Rattle.dap_flat.proofs.find.member.Given as goal

abbrev pub invariant-loop-p : goal.invariant-loop-p
invariant-loop-p l = IsLeft l.nodes l.from l.name l.p

abbrev pub decreases-loop-p : goal.decreases-loop-p
decreases-loop-p l = length l.nodes - l.p
