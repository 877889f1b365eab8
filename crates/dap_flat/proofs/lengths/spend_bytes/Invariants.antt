use Rattle.std.proofs.Common.{◌≡◌, ◌+◌, drop, length}
use Rattle.json.specs.Print.{escape}
use Rattle.dap_flat.proofs.lengths.spend_bytes.Given as goal

-- what is left, without the remaining bytes, is what is left after the text
abbrev pub invariant-loop-byte : goal.invariant-loop-byte
invariant-loop-byte l =
    l.left + length (escape l.text) ≡ l.initial.left + length (escape (drop l.byte-index l.text))
