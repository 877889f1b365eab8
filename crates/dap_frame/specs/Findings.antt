-- The findings of the complete lines of a header part.
use Rattle.std.specs.Prelude.{◌≡◌, Bool, true, false, List, [], ◌∷◌, ℕ, if◌then◌else◌, Err}
use Rattle.std.specs.List.{list_all}
use Rattle.dap_frame.specs.declared.limits.FrameLimits.{FrameLimits}
use Rattle.dap_frame.specs.declared.fault.FrameFault.TheVariants.{TwoLengths}
use Rattle.dap_frame.specs.declared.line_scan.LineScan.{LineScan}
use Rattle.dap_frame.specs.declared.line_scan.LineScan.TheVariants.{Name, OtherName, Length}
use Rattle.dap_frame.specs.declared.line_scan.LineScan.TheVariants.{OtherValue, NoField}
use Rattle.dap_frame.specs.declared.header_scan.Findings.{Findings}
use Rattle.dap_frame.specs.Lines.{is_field_line}
use Rattle.dap_frame.specs.Frame.{lengths_in, the_length}
use Rattle.dap_frame.specs.LengthScan.{length_outcome}

-- whether the list has a line
abbrev pub is_some_line : List (List ℕ) → Bool
is_some_line [] = false
is_some_line (line ∷ lines) = true

-- The findings have the length that the fields named Content-Length among these lines state, and
-- whether there is such a field.
pub record FindsLength (limits : FrameLimits) (lines : List (List ℕ)) (findings : Findings) : Type 0
  where
    pub length : findings.length ≡ the_length limits (lengths_in lines)
    pub has_length : findings.has_length ≡ is_some_line (lengths_in lines)

-- The findings are what these lines state. If a line is not a field line, only that counts.
pub record AreFindings (limits : FrameLimits) (lines : List (List ℕ)) (findings : Findings) : Type 0
  where
    pub are_fields : findings.are_fields ≡ list_all is_field_line lines
    pub lengths : findings.are_fields ≡ true → FindsLength limits lines findings

-- the findings if a line is not a field line
abbrev pub with_no_field : Findings → Findings
with_no_field findings =
    record { are_fields = false; has_length = findings.has_length; length = findings.length }

-- the findings with one more line, whose scan at its end is this one
abbrev pub with_line : FrameLimits → Findings → LineScan → Findings
with_line limits findings (Name n) = with_no_field findings
with_line limits findings OtherName = with_no_field findings
with_line limits findings (Length value) =
    record {
      are_fields = findings.are_fields;
      has_length = true;
      length = if findings.has_length then Err TwoLengths else length_outcome limits value;
    }
with_line limits findings OtherValue = findings
with_line limits findings NoField = with_no_field findings
