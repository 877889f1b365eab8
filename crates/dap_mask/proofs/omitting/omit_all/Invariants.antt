use Rattle.std.proofs.Common.{◌≡◌, drop}
use Rattle.dap_tree.specs.View.{view}
use Rattle.dap_mask.specs.Omissions.{omissions_of, omitted}
use Rattle.dap_mask.proofs.omitting.omit_all.Given as goal

-- the remaining rules change the current tree to the result of all rules for the initial tree
abbrev pub invariant-loop-rule : goal.invariant-loop-rule
invariant-loop-rule l =
    omitted (omissions_of (drop l.rule-index l.rules)) (view l.tree)
    ≡ omitted (omissions_of l.rules) (view l.initial.tree)
