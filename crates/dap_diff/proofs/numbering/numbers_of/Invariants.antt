use Rattle.std.proofs.Common.{◌≡◌, length}
use Rattle.dap_diff.proofs.numbering.numbers_of.Given as goal

abbrev pub invariant-loop-mark : goal.invariant-loop-mark
invariant-loop-mark l = length l.joint.items ≡ l.mark-index
