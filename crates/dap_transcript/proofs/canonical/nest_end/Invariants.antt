use Rattle.std.proofs.Common.{◌≡◌, ◌≤◌, ◌-◌, None, drop, length}
use Rattle.dap_transcript.proofs.Nests.{nest_rest}
use Rattle.dap_transcript.proofs.canonical.nest_end.Given as goal

-- The same follows the array or object from this place.
abbrev pub invariant-loop-at : goal.invariant-loop-at
invariant-loop-at l = record {
  rest : nest_rest None 0 l.text ≡ nest_rest None l.depth (drop l.at l.text);
  depth : l.depth ≤ l.at;
}

abbrev pub decreases-loop-at : goal.decreases-loop-at
decreases-loop-at l = length l.text - l.at
