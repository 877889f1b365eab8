use Rattle.std.proofs.Common.{◌≡◌, suc, take}
use Rattle.std.specs.Prelude.{count_by}
use Rattle.dap_transcript.specs.ReadErrors.{is_line_end}
use Rattle.dap_transcript.proofs.reading.first_difference.Given as goal

-- The bytes so far are the same, and the line is that of the next one.
abbrev pub invariant-loop-at : goal.invariant-loop-at
invariant-loop-at l = record {
  same : take l.at l.text ≡ take l.at l.written;
  line_is : l.line ≡ suc (count_by is_line_end (take l.at l.text));
}
