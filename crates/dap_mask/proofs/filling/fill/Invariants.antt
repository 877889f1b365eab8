use Rattle.std.proofs.Common.{◌≡◌, drop}
use Rattle.dap_tree.specs.View.{view}
use Rattle.dap_mask.specs.Fills.{fills_of, filled}
use Rattle.dap_mask.proofs.filling.fill.Given as goal

-- the remaining rules change the current tree to the result of all rules for the initial tree
abbrev pub invariant-loop-rule : goal.invariant-loop-rule
invariant-loop-rule l =
    filled (fills_of (drop l.rule-index l.rules)) (view l.tree)
    ≡ filled (fills_of l.rules) (view l.initial.tree)
