use Rattle.std.proofs.Common.{◌≡◌, ℕ, None, take}
use Rattle.std.specs.List.{list_any}
use Rattle.dap_suggest.specs.Hidden.{changes, hides}
use Rattle.dap_suggest.proofs.choosing.effect.Given as goal

abbrev pub invariant-loop-index : goal.invariant-loop-index
invariant-loop-index l = l.left_out ≡ None → (value : ℕ)
    → changes l.actions value ≡ list_any (hides l.tally value) (take l.index l.rules)
