-- The effect of one byte on a line. These are the code's own steps. proofs/LineRuns.antt proves
-- that a run of them over a whole line states what `is_field_line`, `is_length_line` and
-- `length_from` state about it.
use Rattle.std.specs.Prelude.{◌≡◌, ℕ, ◌+◌, true, false, ◌&&◌, List, [], ◌∷◌, codes, nat_eq, nat_lt}
use Rattle.std.specs.Prelude.{if◌then◌else◌, slice_index_or}
use Rattle.std.specs.Char.{eq_ignore_ascii_case}
use Rattle.dap_frame.specs.declared.limits.FrameLimits.{FrameLimits}
use Rattle.dap_frame.specs.declared.length_scan.LengthScan.TheVariants.{Blank}
use Rattle.dap_frame.specs.declared.line_scan.LineScan.{LineScan}
use Rattle.dap_frame.specs.declared.line_scan.LineScan.TheVariants.{Name, OtherName, Length}
use Rattle.dap_frame.specs.declared.line_scan.LineScan.TheVariants.{OtherValue, NoField}
use Rattle.dap_frame.specs.Lines.{is_name_byte, is_value_byte, is_colon, is_field_line}
use Rattle.dap_frame.specs.Lines.{is_length_line, trimmed, value_of}
use Rattle.dap_frame.specs.Frame.{length_from}
use Rattle.dap_frame.specs.LengthScan.{length_step, length_outcome}

-- the name of the field with the content's length, in lower case
abbrev pub length_name : List ℕ
length_name = codes "content-length"

-- after one more byte of the line
abbrev pub line_step : LineScan → ℕ → LineScan
line_step (Name n) b =
    if is_colon b then
    (if nat_eq n 0 then NoField else (if nat_eq n 14 then Length Blank else OtherValue))
    else (if is_name_byte b then (if nat_lt n 14
    && eq_ignore_ascii_case b (slice_index_or length_name n 0) then Name (n + 1) else OtherName)
    else NoField)
line_step OtherName b =
    if is_colon b then OtherValue else (if is_name_byte b then OtherName else NoField)
line_step (Length value) b = if is_value_byte b then Length (length_step value b) else NoField
line_step OtherValue b = if is_value_byte b then OtherValue else NoField
line_step NoField b = NoField

-- a run of steps over these bytes
abbrev pub line_run : LineScan → List ℕ → LineScan
line_run s [] = s
line_run s (b ∷ bs) = line_run (line_step s b) bs

-- The scan of a line at its end states what the whole line states.
abbrev pub LineSays : FrameLimits → List ℕ → LineScan → Type 0
LineSays limits line (Name n) = is_field_line line ≡ false
LineSays limits line OtherName = is_field_line line ≡ false
LineSays limits line (Length value) =
    (is_field_line line ≡ true) × (is_length_line line ≡ true)
    × (length_from limits (trimmed (value_of line)) ≡ length_outcome limits value)
LineSays limits line OtherValue = (is_field_line line ≡ true) × (is_length_line line ≡ false)
LineSays limits line NoField = is_field_line line ≡ false
