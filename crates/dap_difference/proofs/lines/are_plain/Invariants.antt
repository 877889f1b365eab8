use Rattle.std.proofs.Common.{◌≡◌, drop}
use Rattle.dap_difference.specs.Lines.{are_plain}
use Rattle.dap_difference.proofs.lines.are_plain.Given as goal

abbrev pub invariant-loop-byte : goal.invariant-loop-byte
invariant-loop-byte l = are_plain (drop l.byte-index l.bytes) ≡ are_plain l.bytes
