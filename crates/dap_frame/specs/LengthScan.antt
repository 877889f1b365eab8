-- The effect of one byte on the value of a length. These are the code's own steps.
-- proofs/LengthRuns.antt proves that a run of them over a whole value states what `length_from`
-- states about it.
use Rattle.std.specs.Prelude.{ℕ, ◌+◌, ◌-◌, ◌*◌, ◌&&◌, nat_lt, nat_le, if◌then◌else◌, Result, Ok}
use Rattle.std.specs.Prelude.{Err}
use Rattle.std.specs.Char.{is_ascii_digit}
use Rattle.dap_frame.specs.declared.limits.FrameLimits.{FrameLimits}
use Rattle.dap_frame.specs.declared.fault.FrameFault.{FrameFault}
use Rattle.dap_frame.specs.declared.fault.FrameFault.TheVariants.{BadLength, ContentTooLong}
use Rattle.dap_frame.specs.declared.length_scan.LengthScan.{LengthScan}
use Rattle.dap_frame.specs.declared.length_scan.LengthScan.TheVariants.{Blank, Digits, Padded}
use Rattle.dap_frame.specs.declared.length_scan.LengthScan.TheVariants.{Invalid}
use Rattle.dap_frame.specs.Lines.{is_blank}

-- after one more byte of the value
abbrev pub length_step : LengthScan → ℕ → LengthScan
length_step Blank b =
    if is_blank b then Blank else (if is_ascii_digit b then Digits 1 (b - 48) else Invalid)
length_step (Digits count number) b =
    if is_blank b then Padded number
    else (if is_ascii_digit b
    && (nat_lt count 10 && nat_lt number 1000000000) then Digits (count + 1)
    (number * 10 + (b - 48)) else Invalid)
length_step (Padded number) b = if is_blank b then Padded number else Invalid
length_step Invalid b = Invalid

-- the length, if its number is within the limit
abbrev pub number_outcome : FrameLimits → ℕ → Result ℕ FrameFault
number_outcome limits number =
    if nat_le number limits.content then Ok number else Err ContentTooLong

-- the length that the value states if it ends here
abbrev pub length_outcome : FrameLimits → LengthScan → Result ℕ FrameFault
length_outcome limits Blank = Err BadLength
length_outcome limits (Digits count number) = number_outcome limits number
length_outcome limits (Padded number) = number_outcome limits number
length_outcome limits Invalid = Err BadLength
