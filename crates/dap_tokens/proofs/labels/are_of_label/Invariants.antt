use Rattle.std.proofs.Common.{◌≡◌, drop}
use Rattle.dap_words.specs.Runs.{all_of}
use Rattle.dap_tokens.specs.Tokens.{is_of_label}
use Rattle.dap_tokens.proofs.labels.are_of_label.Given as goal

-- the remaining bytes decide
abbrev pub invariant-loop-byte : goal.invariant-loop-byte
invariant-loop-byte l =
    all_of is_of_label (drop l.byte-index l.bytes) ≡ all_of is_of_label l.bytes
