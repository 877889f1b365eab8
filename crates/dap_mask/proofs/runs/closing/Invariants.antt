use Rattle.std.proofs.Common.{◌≡◌, ◌+◌, drop, false}
use Rattle.dap_mask.specs.Runs.{closing, is_closed}
use Rattle.dap_mask.proofs.runs.closing.Given as goal

-- the index plus the result for the remaining bytes is the result for the whole text
abbrev pub invariant-loop-i : goal.invariant-loop-i
invariant-loop-i l = record {
  value : l.i + closing l.escaped (drop l.i l.text) ≡ closing false l.text;
  closed : is_closed l.escaped (drop l.i l.text) ≡ is_closed false l.text;
}
