use Rattle.std.proofs.Common.{◌≡◌, ◌≤◌, ◌++◌, take, drop, length}
use Rattle.std.specs.Char.{is_ascii_digit}
use Rattle.dap_words.specs.Runs.{some_of}
use Rattle.dap_words.specs.Long.{long_from, long}
use Rattle.dap_words.proofs.long_runs.shorten_runs.Given as goal

-- the bytes before the run, and the result for the run and the remaining bytes, are the result for
-- the whole text
abbrev pub invariant-loop-i : goal.invariant-loop-i
invariant-loop-i l = record {
  same : length l.bytes ≡ length l.initial.bytes;
  begun : l.start ≤ l.kept;
  within : l.kept ≤ l.i;
  digit : l.decimal ≡ some_of is_ascii_digit (drop l.start (take l.kept l.bytes));
  whole : take l.start l.bytes
      ++ long_from (drop l.start (take l.kept l.bytes)) (drop l.i l.bytes)
      ≡ long l.initial.bytes;
}
