use Rattle.std.proofs.Common.{◌≡◌, ◌++◌}
use Rattle.std.specs.List.{flat_map}
use Rattle.dap_transcript.specs.Scalars.{char_text}
use Rattle.dap_transcript.proofs.scalars.push_chars.Given as goal

-- The characters so far were appended.
abbrev pub invariant-loop-c : goal.invariant-loop-c
invariant-loop-c l = l.out.items ≡ l.initial.out.items ++ flat_map char_text l.yielded
