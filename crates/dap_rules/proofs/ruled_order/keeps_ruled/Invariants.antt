use Rattle.std.proofs.Common.{◌≡◌, ◌++◌, drop, take}
use Rattle.std.specs.List.{filter}
use Rattle.dap_rules.specs.RuledOrder.{flag_at, set_from}
use Rattle.dap_rules.proofs.ruled_order.keeps_ruled.Given as goal

-- the places so far contain each place before `from` whose flag is set, in their order
abbrev pub invariant-loop-place : goal.invariant-loop-place
invariant-loop-place l =
    filter (flag_at l.flags) (take l.place-index l.places) ++ set_from l.from (drop l.from l.flags)
    ≡ set_from 0 l.flags
