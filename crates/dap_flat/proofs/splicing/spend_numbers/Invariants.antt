use Rattle.std.proofs.Common.{◌≡◌, ◌+◌, drop}
use Rattle.dap_flat.specs.Marks.{numbers_length}
use Rattle.dap_flat.proofs.splicing.spend_numbers.Given as goal

-- what is left, without the remaining numbers, is what is left after all numbers
abbrev pub invariant-loop-mark : goal.invariant-loop-mark
invariant-loop-mark l =
    l.left + numbers_length l.marks l.numbers
    ≡ l.initial.left + numbers_length (drop l.mark-index l.marks) l.rest
