use Rattle.std.proofs.Common.{◌≡◌, nat_lt, take}
use Rattle.std.specs.List.{list_all}
use Rattle.dap_transcript.proofs.scalars.are_low.Given as goal

abbrev pub invariant-loop-byte : goal.invariant-loop-byte
invariant-loop-byte l =
    nat_lt l.greatest 127 ≡ list_all (λ b. nat_lt b 127) (take l.byte-index l.bytes)
