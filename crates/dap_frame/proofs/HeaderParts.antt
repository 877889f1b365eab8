-- The result that a complete header part states, for the bytes that start with it.
use Rattle.std.proofs.Common.{◌≡◌, ℕ, ◌≤◌, true, List, length, refl, sym, ◌∙◌, subst, arith}
use Rattle.std.proofs.lemmas.List.{take_all}
use Rattle.dap_frame.specs.declared.limits.FrameLimits.{FrameLimits}
use Rattle.dap_frame.specs.declared.header_scan.Findings.{Findings}
use Rattle.dap_frame.specs.Lines.{AreLines}
use Rattle.dap_frame.specs.Frame.{BeginsWith, parsed_length}
use Rattle.dap_frame.specs.Findings.{AreFindings}
use Rattle.dap_frame.specs.HeaderScan.{HeaderEnds}

-- it states what its lines state
pub header_begins : (limits : FrameLimits) (header : List ℕ) (findings : Findings)
    (ends : HeaderEnds limits header findings)
    → length header ≤ limits.header
    → BeginsWith limits header (length header) (parsed_length limits ends.lines)
header_begins limits header findings ends within = record {
  ended = ends.first;
  within = within;
  says = record {
    lines = ends.lines;
    are_lines =
        subst (λ bytes. AreLines bytes ends.lines)
        (sym (take_all (length header) header (omega arith))) ends.are_lines;
    said_so = refl;
  };
}

-- if each line is a field line, it states what the findings state
pub judged_by_findings : (limits : FrameLimits) (lines : List (List ℕ)) (findings : Findings)
    → AreFindings limits lines findings → findings.are_fields ≡ true
    → parsed_length limits lines ≡ findings.length
judged_by_findings limits lines findings found all =
    let fields = sym found.are_fields ∙ all in rw fields (sym (found.lengths all).length)
