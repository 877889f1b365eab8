use Rattle.std.proofs.Common.{length, ◌*◌, ◌+◌, ◌-◌}
use Rattle.dap_message.specs.Marks.{edit, marked}
use Rattle.dap_flat_message.specs.Marking.{IsSoFar, steps}
use Rattle.dap_flat_message.proofs.marks.+mark_path.Given as goal

abbrev pub decreases-mark_path : goal.decreases-mark_path
decreases-mark_path l = 3 * length l.path.now

abbrev pub decreases-mark_below : goal.decreases-mark_below
decreases-mark_below l = 3 * length l.path.now + 1

abbrev pub decreases-mark_each : goal.decreases-mark_each
decreases-mark_each l = 3 * length l.path.now + 2

abbrev pub decreases-mark_items : goal.decreases-mark_items
decreases-mark_items l = 3 * length l.path.now + 1

abbrev pub invariant-mark_items-loop-p : goal.invariant-mark_items-loop-p
invariant-mark_items-loop-p l =
    IsSoFar l.initial.nodes l.nodes l.from l.p (edit (steps l.path) (marked l.sort))

abbrev pub decreases-mark_items-loop-p : goal.decreases-mark_items-loop-p
decreases-mark_items-loop-p l = length l.nodes - l.p
