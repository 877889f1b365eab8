use Rattle.std.proofs.Common.{◌≡◌, false, drop}
use Rattle.dap_naming.specs.Flat.{may_have_hex}
use Rattle.dap_naming.proofs.flat.may_have_hex.Given as goal

-- no byte before this one is a sign
abbrev pub invariant-loop-byte : goal.invariant-loop-byte
invariant-loop-byte l =
    may_have_hex false l.text ≡ may_have_hex l.after_zero (drop l.byte-index l.text)
