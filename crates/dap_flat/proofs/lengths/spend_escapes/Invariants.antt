use Rattle.std.proofs.Common.{◌≡◌, ◌+◌, length}
use Rattle.json.specs.Print.{escape}
use Rattle.dap_flat.proofs.lengths.spend_escapes.Given as goal

-- what is left, without the remaining bytes, is what is left after the text
abbrev pub invariant-loop-rest : goal.invariant-loop-rest
invariant-loop-rest l = l.left + length (escape l.text) ≡ l.initial.left + length (escape l.rest)

abbrev pub decreases-loop-rest : goal.decreases-loop-rest
decreases-loop-rest l = length l.rest
