use Rattle.std.proofs.Common.{◌≡◌, ◌≤◌, ◌-◌, false, drop, length}
use Rattle.dap_transcript.specs.Canonical.{string_rest}
use Rattle.dap_transcript.proofs.canonical.string_end.Given as goal

-- The same follows the string from this place.
abbrev pub invariant-loop-at : goal.invariant-loop-at
invariant-loop-at l = record {
  rest : string_rest false (drop l.from l.text) ≡ string_rest false (drop l.at l.text);
  from : l.from ≤ l.at;
}

abbrev pub decreases-loop-at : goal.decreases-loop-at
decreases-loop-at l = length l.text - l.at
