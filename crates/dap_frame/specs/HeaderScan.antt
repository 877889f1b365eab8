-- The effect of one byte on the scan of a header part, and which bytes a scan represents.
use Rattle.std.specs.Prelude.{◌≡◌, ℕ, ◌+◌, Bool, true, false, List, [], ◌∷◌, ◌++◌, length, nat_eq}
use Rattle.std.specs.Prelude.{◌==◌, if◌then◌else◌}
use Rattle.std.specs.List.{ends_with, AllByRecursion}
use Rattle.dap_frame.specs.declared.limits.FrameLimits.{FrameLimits}
use Rattle.dap_frame.specs.declared.line_scan.LineScan.{LineScan}
use Rattle.dap_frame.specs.declared.line_scan.LineScan.TheVariants.{Name}
use Rattle.dap_frame.specs.declared.header_scan.EndMark.{EndMark}
use Rattle.dap_frame.specs.declared.header_scan.EndMark.TheVariants.{Nothing, Cr, CrLf, CrLfCr}
use Rattle.dap_frame.specs.declared.header_scan.HeaderScan.{HeaderScan}
use Rattle.dap_frame.specs.declared.header_scan.ScanStep.{ScanStep}
use Rattle.dap_frame.specs.declared.header_scan.ScanStep.TheVariants.{Unfinished, Ended}
use Rattle.dap_frame.specs.declared.header_scan.Findings.{Findings}
use Rattle.dap_frame.specs.Lines.{Lacks, line_end, header_end, ended, AreLines, IsFirstEnd}
use Rattle.dap_frame.specs.LineScan.{line_step, line_run}
use Rattle.dap_frame.specs.Findings.{AreFindings, with_line}

-- the CR after the current line, which may belong to its end
abbrev pub pending : EndMark → List ℕ
pending Nothing = []
pending Cr = 13 ∷ []
pending CrLf = []
pending CrLfCr = 13 ∷ []

-- the scan of the current line, including that CR
abbrev pub held_line : EndMark → LineScan → LineScan
held_line Nothing line = line
held_line Cr line = line_step line 13
held_line CrLf line = line
held_line CrLfCr line = line_step line 13

-- after a CR
abbrev pub at_cr : EndMark → EndMark
at_cr Nothing = Cr
at_cr Cr = Cr
at_cr CrLf = CrLfCr
at_cr CrLfCr = Cr

-- the scan after one more byte
abbrev pub scan_with : HeaderScan → EndMark → Findings → LineScan → HeaderScan
scan_with scan mark findings line =
    record { count = scan.count + 1; mark = mark; findings = findings; line = line }

-- the effect of an LF: a byte of the line, the end of the line, or the end of the header part
abbrev pub match_mark : EndMark → ScanStep → ScanStep → ScanStep → ScanStep
match_mark Nothing a b c = a
match_mark Cr a b c = b
match_mark CrLf a b c = a
match_mark CrLfCr a b c = c

-- after an LF
abbrev pub at_lf : FrameLimits → HeaderScan → ScanStep
at_lf limits scan = match_mark scan.mark
    (Unfinished (scan_with scan Nothing scan.findings (line_step scan.line 10)))
    (Unfinished (scan_with scan CrLf (with_line limits scan.findings scan.line) (Name 0)))
    (Ended scan.findings)

-- after one more byte of a header part
abbrev pub header_step : FrameLimits → HeaderScan → ℕ → ScanStep
header_step limits scan b =
    if b == 10 then at_lf limits scan
    else (if b == 13 then Unfinished
    (scan_with scan (at_cr scan.mark) scan.findings (held_line scan.mark scan.line))
    else Unfinished
    (scan_with scan Nothing scan.findings (line_step (held_line scan.mark scan.line) b)))

-- whether the bytes end with the mark
abbrev pub ends : List ℕ → List ℕ → Bool
ends mark bytes = ends_with nat_eq bytes mark

-- whether the bytes end with a CR, a CR LF or a CR LF CR
abbrev pub is_cr : EndMark → Bool
is_cr Nothing = false
is_cr Cr = true
is_cr CrLf = false
is_cr CrLfCr = true

abbrev pub is_crlf : EndMark → Bool
is_crlf Nothing = false
is_crlf Cr = false
is_crlf CrLf = true
is_crlf CrLfCr = false

abbrev pub is_crlfcr : EndMark → Bool
is_crlfcr Nothing = false
is_crlfcr Cr = false
is_crlfcr CrLf = false
is_crlfcr CrLfCr = true

-- The bytes end with this part of a CR LF CR LF.
pub record IsMark (bytes : List ℕ) (mark : EndMark) : Type 0 where
  pub one : ends (13 ∷ []) bytes ≡ is_cr mark
  pub two : ends (13 ∷ 10 ∷ []) bytes ≡ is_crlf mark
  pub three : ends (13 ∷ 10 ∷ 13 ∷ []) bytes ≡ is_crlfcr mark

-- the facts about the current line in each mark, without a CR that may belong to its end
abbrev pub FitsMark : EndMark → List ℕ → Type 0
FitsMark Nothing present = ends (13 ∷ []) present ≡ false
FitsMark Cr present = Unit {0}
FitsMark CrLf present = present ≡ []
FitsMark CrLfCr present = present ≡ []

-- The scan represents these bytes, in which no header part ends. The lines and the current line
-- occur only in this definition: the scan does not store them.
pub record IsScanOf (limits : FrameLimits) (bytes : List ℕ) (scan : HeaderScan) : Type 0 where
  pub lines : List (List ℕ)
  pub present : List ℕ
  pub count : scan.count ≡ length bytes
  pub bytes_are : bytes ≡ ended lines ++ (present ++ pending scan.mark)
  pub each : AllByRecursion (Lacks line_end) lines
  pub one_line : Lacks line_end present
  pub fits : FitsMark scan.mark present
  pub line : scan.line ≡ line_run (Name 0) present
  pub found : AreFindings limits lines scan.findings
  pub mark : IsMark bytes scan.mark
  pub lacks : Lacks header_end bytes

-- These bytes are a header part, and the findings are what its lines state.
pub record HeaderEnds (limits : FrameLimits) (bytes : List ℕ) (findings : Findings) : Type 0 where
  pub lines : List (List ℕ)
  pub are_lines : AreLines bytes lines
  pub found : AreFindings limits lines findings
  pub first : IsFirstEnd header_end bytes (length bytes)

-- The result of a step from the scan of the bytes before b is correct for the bytes with b.
abbrev pub StepGives : FrameLimits → List ℕ → ℕ → ScanStep → Type 0
StepGives limits bytes b (Unfinished next) = IsScanOf limits (bytes ++ b ∷ []) next
StepGives limits bytes b (Ended findings) = HeaderEnds limits (bytes ++ b ∷ []) findings
