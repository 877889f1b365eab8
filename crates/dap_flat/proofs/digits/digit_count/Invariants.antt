use Rattle.std.proofs.Common.{◌≡◌, ◌+◌, ◌≤◌, length}
use Rattle.std.specs.Prelude.{decimal}
use Rattle.dap_flat.proofs.digits.digit_count.Given as goal

-- the digits so far and those of the rest are all digits
abbrev pub invariant-loop-rest : goal.invariant-loop-rest
invariant-loop-rest l = record {
  within : l.rest ≤ l.number;
  digits : l.count + length (decimal l.rest) ≡ 1 + length (decimal l.number);
}

abbrev pub decreases-loop-rest : goal.decreases-loop-rest
decreases-loop-rest l = l.rest
