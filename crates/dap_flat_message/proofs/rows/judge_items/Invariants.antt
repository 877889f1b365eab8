use Rattle.std.proofs.Common.{length, ◌-◌, option_map}
use Rattle.dap_flat_message.specs.Judging.{AreItemsLeft, part_steps}
use Rattle.dap_flat_message.proofs.rows.judge_items.Given as goal

abbrev pub invariant-loop-p : goal.invariant-loop-p
invariant-loop-p l =
    AreItemsLeft l.nodes l.from l.p (part_steps (option_map (λ s. s.now) l.part)) l.want l.needed

abbrev pub decreases-loop-p : goal.decreases-loop-p
decreases-loop-p l = length l.nodes - l.p
