use Rattle.std.proofs.Common.{◌≤◌, take}
use Rattle.dap_frame.proofs.PlainLengths.{AreDigitsOf}
use Rattle.dap_frame.proofs.plain_length.plain_length.Given as goal

abbrev pub invariant-loop-i : goal.invariant-loop-i
invariant-loop-i l = record {
  few : l.i ≤ 9;
  digits : AreDigitsOf l.number l.i (take l.i l.text);
}
