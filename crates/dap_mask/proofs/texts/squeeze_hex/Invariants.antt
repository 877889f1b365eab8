use Rattle.std.proofs.Common.{◌≡◌, ◌≤◌, ◌++◌, take, drop, length}
use Rattle.dap_mask.specs.Texts.{hex}
use Rattle.dap_mask.specs.Standing.{hex_at}
use Rattle.dap_mask.proofs.texts.squeeze_hex.Given as goal

-- the result so far and the result for the remaining bytes are the result for the whole text
abbrev pub invariant-loop-i : goal.invariant-loop-i
invariant-loop-i l = record {
  same : length l.bytes ≡ length l.initial.bytes;
  behind : l.kept ≤ l.i;
  whole : take l.kept l.bytes ++ hex_at l.at (drop l.i l.bytes) ≡ hex l.initial.bytes;
}
