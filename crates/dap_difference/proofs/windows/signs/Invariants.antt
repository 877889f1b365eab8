use Rattle.std.proofs.Common.{◌≡◌, ◌+◌, ◌≤◌, drop}
use Rattle.dap_difference.specs.Windows.{signs, signs_from}
use Rattle.dap_difference.proofs.windows.signs.Given as goal

abbrev pub invariant-loop-byte : goal.invariant-loop-byte
invariant-loop-byte l = record {
  counted : signs l.text ≡ l.found + signs_from l.left (drop l.byte-index l.text);
  few : l.found ≤ l.byte-index;
}
