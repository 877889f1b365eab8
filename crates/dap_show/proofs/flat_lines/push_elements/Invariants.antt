use Rattle.std.proofs.Common.{length, ◌-◌}
use Rattle.dap_show.specs.FlatElements.{AreElementsLeft}
use Rattle.dap_show.proofs.flat_lines.push_elements.Given as goal

-- The lines of the elements before p were appended.
abbrev pub invariant-loop-p : goal.invariant-loop-p
invariant-loop-p l = AreElementsLeft l.kind l.nodes l.from l.p l.fn.out.items l.out.items

abbrev pub decreases-loop-p : goal.decreases-loop-p
decreases-loop-p l = length l.nodes - l.p
