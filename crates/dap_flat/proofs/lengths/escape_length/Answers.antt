use Rattle.std.proofs.Common.{rules}
use Rattle.json.specs.Print.{escape_byte}
use Rattle.dap_flat.proofs.lengths.escape_length.Goals as goal

pub returns-then-has_letter : goal.returns-then-has_letter
unfolding escape_byte
returns-then-has_letter c = search rules

pub returns-then-byte-lt32 : goal.returns-then-byte-lt32
unfolding escape_byte
returns-then-byte-lt32 c = search rules

pub returns-else-byte-lt32 : goal.returns-else-byte-lt32
unfolding escape_byte
returns-else-byte-lt32 c = search rules
