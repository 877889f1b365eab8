use Rattle.std.proofs.Common.{length, ◌-◌, ◌≡◌, drop}
use Rattle.dap_rules.specs.RuledOrder.{set_from}
use Rattle.dap_rules.proofs.ruled_order.first_set.Given as goal

-- no flag between `from` and `place` is set
abbrev pub invariant-loop-place : goal.invariant-loop-place
invariant-loop-place l =
    set_from l.fn.from (drop l.fn.from l.flags) ≡ set_from l.place (drop l.place l.flags)

abbrev pub decreases-loop-place : goal.decreases-loop-place
decreases-loop-place l = length l.flags - l.place
