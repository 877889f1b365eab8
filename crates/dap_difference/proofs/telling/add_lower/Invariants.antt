use Rattle.std.proofs.Common.{◌≡◌, length}
use Rattle.dap_difference.specs.TellingSteps.{PassesLower}
use Rattle.dap_difference.proofs.telling.add_lower.Given as goal

abbrev pub invariant-lower : goal.invariant-lower
invariant-lower l = record {
  passes : PassesLower l.name l.initial.path.items l.initial.left l.left l.initial.found.items
      l.found.items;
  path : l.path.items ≡ l.initial.path.items;
}

abbrev pub decreases-lower : goal.decreases-lower
decreases-lower l = length l.left
