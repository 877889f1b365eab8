use Rattle.std.proofs.Common.{◌≡◌, ◌≤◌, ◌-◌, true, length}
use Rattle.std.specs.Prelude.{slice_range}
use Rattle.std.specs.List.{list_all}
use Rattle.dap_transcript.specs.Scalars.{is_simple}
use Rattle.dap_transcript.proofs.canonical.skip_simple.Given as goal

-- The bytes before this place are simple.
abbrev pub invariant-loop-at : goal.invariant-loop-at
invariant-loop-at l = record {
  simple : list_all is_simple (slice_range l.text l.from l.at) ≡ true;
  from : l.from ≤ l.at;
}

abbrev pub decreases-loop-at : goal.decreases-loop-at
decreases-loop-at l = length l.text - l.at

abbrev pub invariant-loop-at-2 : goal.invariant-loop-at-2
invariant-loop-at-2 l = record {
  simple : list_all is_simple (slice_range l.text l.from l.at) ≡ true;
  from : l.from ≤ l.at;
}

abbrev pub decreases-loop-at-2 : goal.decreases-loop-at-2
decreases-loop-at-2 l = length l.text - l.at
