use Rattle.std.proofs.Common.{◌-◌, ◌≤◌, List, ℕ, ◌++◌, take, length}
use Rattle.dap_recording.specs.Count.{IsCountOf}
use Rattle.dap_recording.proofs.count.count_end.Given as goal

abbrev pub invariant-loop-at : goal.invariant-loop-at
invariant-loop-at l = record {
  within : l.at ≤ length l.rest;
  counted : (text : List ℕ) → IsCountOf l.fn.start text
      → IsCountOf l.count (text ++ take l.at l.rest);
}

abbrev pub decreases-loop-at : goal.decreases-loop-at
decreases-loop-at l = length l.rest - l.at
