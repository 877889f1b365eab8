use Rattle.std.proofs.Common.{◌≡◌, drop}
use Rattle.std.specs.Char.{is_ascii_digit}
use Rattle.dap_words.specs.Runs.{some_of}
use Rattle.dap_tokens.proofs.tokens.has_decimal.Given as goal

-- the remaining bytes have a decimal digit if all bytes have one
abbrev pub invariant-loop-byte : goal.invariant-loop-byte
invariant-loop-byte l =
    some_of is_ascii_digit (drop l.byte-index l.text) ≡ some_of is_ascii_digit l.text
