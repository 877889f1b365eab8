use Rattle.std.proofs.Common.{◌≡◌, ◌≤◌, ◌++◌, take, drop}
use Rattle.dap_mask.specs.Texts.{digits_from, digits}
use Rattle.dap_mask.proofs.texts.squeeze_digits.Given as goal

-- the result so far and the result for the remaining bytes are the result for the whole text
abbrev pub invariant-loop-i : goal.invariant-loop-i
invariant-loop-i l = record {
  behind : l.kept ≤ l.i;
  whole : take l.kept l.bytes ++ digits_from l.inside (drop l.i l.bytes) ≡ digits l.initial.bytes;
}
