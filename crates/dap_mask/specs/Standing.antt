-- For private clauses: `hex` byte by byte, as a state machine.
use Rattle.std.specs.{Prelude.{ℕ, Bool, cond, List, Option, Some, None}, Char.is_ascii_hexdigit}
use Rattle.dap_mask.specs.{Texts.{hex, behind_zero, behind_x, in_number}, declared.texts.At.At}
use Rattle.dap_mask.specs.declared.texts.At.TheVariants.{Outside, BehindZero, BehindX, InNumber}

-- The result for the rest of the text in this state.
abbrev pub hex_at : At → List ℕ → List ℕ
hex_at Outside s = hex s
hex_at BehindZero s = behind_zero s
hex_at BehindX s = behind_x s
hex_at InNumber s = in_number s

-- The result for one byte; `None` if the byte is removed.
abbrev pub left_of : At → ℕ → Option ℕ
left_of Outside b = Some b
left_of BehindZero b = Some 120
left_of BehindX b = Some 48
left_of InNumber b = cond (is_ascii_hexdigit b) None (Some b)

-- The state at the next byte; `begins` says whether a hexadecimal number starts at this byte.
abbrev pub next_at : At → ℕ → Bool → At
next_at Outside b begins = cond begins BehindZero Outside
next_at BehindZero b begins = BehindX
next_at BehindX b begins = InNumber
next_at InNumber b begins = cond (is_ascii_hexdigit b) InNumber Outside
