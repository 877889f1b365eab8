use Rattle.std.proofs.Common.{◌≡◌, drop}
use Rattle.dap_tree.specs.View.{view}
use Rattle.dap_mask.specs.Index.{masked_at}
use Rattle.dap_mask.specs.Rules.{rules_of}
use Rattle.dap_mask.proofs.masking.mask_places.Given as goal

-- the remaining rules change the current tree to the result of all rules for the initial tree
abbrev pub invariant-loop-place : goal.invariant-loop-place
invariant-loop-place l =
    masked_at (rules_of l.rules) (drop l.place-index l.places) (view l.tree)
    ≡ masked_at (rules_of l.rules) l.places (view l.initial.tree)
