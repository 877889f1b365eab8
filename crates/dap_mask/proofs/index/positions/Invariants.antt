use Rattle.std.proofs.Common.{◌≡◌, ◌++◌, drop, option_map}
use Rattle.dap_mask.specs.Index.{positions_from, positions}
use Rattle.dap_mask.specs.Rules.{rules_of}
use Rattle.dap_mask.proofs.index.positions.Given as goal

-- the positions so far and those of the remaining rules are all positions
abbrev pub invariant-loop-i : goal.invariant-loop-i
invariant-loop-i l =
    l.places.items ++ positions_from l.kind (option_map (λ s. s.now) l.name) l.i
    (rules_of (drop l.i l.rules))
    ≡ positions l.kind (option_map (λ s. s.now) l.name) (rules_of l.rules)
