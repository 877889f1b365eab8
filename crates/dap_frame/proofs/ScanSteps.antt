-- The scan of a header part remains that of its bytes after one more byte.
use Rattle.std.proofs.Common.{◌≡◌, ℕ, ◌+◌, true, false, ◌&&◌, List, [], ◌∷◌, ◌++◌, length, Err}
use Rattle.std.proofs.Common.{refl, sym, ap, ◌∙◌, subst, arith, inl, inr, nat_eq}
use Rattle.std.proofs.lemmas.Bool.{cases_Bool, and_left, and_right, eqb-true}
use Rattle.std.proofs.lemmas.List.{take-append-le, take_all, append_assoc, append-nil}
use Rattle.std.proofs.lemmas.List.{length-append}
use Rattle.std.specs.List.{ends_with, AllByRecursion}
use Rattle.dap_frame.specs.declared.limits.FrameLimits.{FrameLimits}
use Rattle.dap_frame.specs.declared.fault.FrameFault.TheVariants.{NoLength}
use Rattle.dap_frame.specs.declared.line_scan.LineScan.{LineScan}
use Rattle.dap_frame.specs.declared.line_scan.LineScan.TheVariants.{Name}
use Rattle.dap_frame.specs.declared.header_scan.EndMark.{EndMark}
use Rattle.dap_frame.specs.declared.header_scan.EndMark.TheVariants.{Nothing, Cr, CrLf, CrLfCr}
use Rattle.dap_frame.specs.declared.header_scan.Findings.{Findings}
use Rattle.dap_frame.specs.declared.header_scan.HeaderScan.{HeaderScan}
use Rattle.dap_frame.specs.declared.header_scan.ScanStep.TheVariants.{Unfinished}
use Rattle.dap_frame.specs.Lines.{Lacks, line_end, header_end, ended}
use Rattle.dap_frame.specs.LineScan.{LineSays, line_run, line_step}
use Rattle.dap_frame.specs.Findings.{AreFindings, with_line}
use Rattle.dap_frame.specs.HeaderScan.{held_line, at_cr, at_lf, header_step, HeaderEnds, StepGives}
use Rattle.dap_frame.specs.HeaderScan.{ends, IsMark, is_cr, FitsMark, IsScanOf}
use Rattle.dap_frame.proofs.MarkEnds.{ends_at_front}
use Rattle.dap_frame.proofs.LineRuns.{line_says, run_append}
use Rattle.dap_frame.proofs.ByteEnds.{and_true, ends_more, ends_nil, lacks_more, no_line_end}
use Rattle.dap_frame.proofs.ByteEnds.{no_header_end}
use Rattle.dap_frame.proofs.EndMarks.{cr_all, mark_lf, mark_cr, mark_other}
use Rattle.dap_frame.proofs.FindingsSteps.{found_more}

-- the current line with the CR after it
record HeldLine (limits : FrameLimits) (bytes : List ℕ) (count : ℕ) (mark : EndMark)
    (findings : Findings) (state : LineScan) : Type 0 where
  lines : List (List ℕ)
  held : List ℕ
  bytes_are : bytes ≡ ended lines ++ held
  each : AllByRecursion (Lacks line_end) lines
  one_line : Lacks line_end held
  cr : ends (13 ∷ []) held ≡ is_cr mark
  line : held_line mark state ≡ line_run (Name 0) held
  fits : FitsMark (at_cr mark) held
  found : AreFindings limits lines findings

abbrev pub scan_of : ℕ → EndMark → Findings → LineScan → HeaderScan
scan_of count mark findings line =
    record { count = count; mark = mark; findings = findings; line = line }

held_cr : (present : List ℕ) → Lacks line_end present → Lacks line_end (present ++ 13 ∷ [])
held_cr present lacks =
    lacks_more line_end present 13 lacks (ends_more (13 ∷ []) present 10 13
    ∙ and_right (ends (13 ∷ []) present) _ refl)

held_of : (limits : FrameLimits) (bytes : List ℕ) (count : ℕ) (mark : EndMark) (findings : Findings)
    (line : LineScan)
    → IsScanOf limits bytes (scan_of count mark findings line)
    → HeldLine limits bytes count mark findings line
held_of limits bytes count Nothing findings line h =
    let same = append-nil h.present in
    record {
      lines = h.lines;
      held = h.present;
      bytes_are = h.bytes_are ∙ ap (λ xs. ended h.lines ++ xs) same;
      each = h.each;
      one_line = h.one_line;
      cr = h.fits;
      line = h.line;
      fits = tt;
      found = h.found;
    }
held_of limits bytes count Cr findings line h =
    record {
      lines = h.lines;
      held = h.present ++ 13 ∷ [];
      bytes_are = h.bytes_are;
      each = h.each;
      one_line = held_cr h.present h.one_line;
      cr = ends_more [] h.present 13 13 ∙ and_true (ends [] h.present) ∙ ends_nil h.present;
      line = ap (λ s. line_step s 13) h.line ∙ sym (run_append (Name 0) h.present (13 ∷ []));
      fits = tt;
      found = h.found;
    }
held_of limits bytes count CrLf findings line h =
    let same = append-nil h.present in
    record {
      lines = h.lines;
      held = h.present;
      bytes_are = h.bytes_are ∙ ap (λ xs. ended h.lines ++ xs) same;
      each = h.each;
      one_line = h.one_line;
      cr = ap (ends (13 ∷ [])) h.fits;
      line = h.line;
      fits = h.fits;
      found = h.found;
    }
held_of limits bytes count CrLfCr findings line h =
    record {
      lines = h.lines;
      held = h.present ++ 13 ∷ [];
      bytes_are = h.bytes_are;
      each = h.each;
      one_line = held_cr h.present h.one_line;
      cr = ends_more [] h.present 13 13 ∙ and_true (ends [] h.present) ∙ ends_nil h.present;
      line = ap (λ s. line_step s 13) h.line ∙ sym (run_append (Name 0) h.present (13 ∷ []));
      fits = tt;
      found = h.found;
    }

counted : (bytes : List ℕ) (b count : ℕ) → count ≡ length bytes
    → count + 1 ≡ length (bytes ++ b ∷ [])
counted bytes b count e = omega (arith, e, length-append bytes (b ∷ []))

-- a byte that neither ends a line nor is a CR
push : (limits : FrameLimits) (bytes : List ℕ) (count : ℕ) (mark : EndMark) (findings : Findings)
    (line : LineScan) (b : ℕ)
    → IsScanOf limits bytes (scan_of count mark findings line) → nat_eq 13 b ≡ false
    → (is_cr mark && nat_eq 10 b) ≡ false
    → IsMark (bytes ++ b ∷ []) Nothing → Lacks header_end (bytes ++ b ∷ [])
    → IsScanOf limits (bytes ++ b ∷ [])
    (scan_of (count + 1) Nothing findings (line_step (held_line mark line) b))
push limits bytes count mark findings line b h no_cr no_end is_mark lacks =
    let g = held_of limits bytes count mark findings line h in
    record {
      lines = g.lines;
      present = g.held ++ b ∷ [];
      count = counted bytes b count h.count;
      bytes_are =
          ap (λ xs. xs ++ b ∷ []) g.bytes_are ∙ append_assoc (ended g.lines) g.held (b ∷ [])
          ∙ ap (λ xs. ended g.lines ++ xs) (sym (append-nil (g.held ++ b ∷ [])));
      each = g.each;
      one_line = lacks_more line_end g.held b g.one_line (ends_more (13 ∷ []) g.held 10 b
          ∙ ap (λ t. t && nat_eq 10 b) g.cr ∙ no_end);
      fits = ends_more [] g.held 13 b ∙ and_right (ends [] g.held) _ no_cr;
      line = ap (λ s. line_step s b) g.line ∙ sym (run_append (Name 0) g.held (b ∷ []));
      found = g.found;
      mark = is_mark;
      lacks = lacks;
    }

push_cr : (limits : FrameLimits) (bytes : List ℕ) (count : ℕ) (mark : EndMark) (findings : Findings)
    (line : LineScan)
    → IsScanOf limits bytes (scan_of count mark findings line)
    → IsScanOf limits (bytes ++ 13 ∷ [])
    (scan_of (count + 1) (at_cr mark) findings (held_line mark line))
push_cr limits bytes count mark findings line h =
    let g = held_of limits bytes count mark findings line h in
    record {
      lines = g.lines;
      present = g.held;
      count = counted bytes 13 count h.count;
      bytes_are =
          ap (λ xs. xs ++ 13 ∷ []) g.bytes_are ∙ append_assoc (ended g.lines) g.held (13 ∷ [])
          ∙ ap (λ xs. ended g.lines ++ (g.held ++ xs)) (sym (cr_all mark).3);
      each = g.each;
      one_line = g.one_line;
      fits = g.fits;
      line = g.line;
      found = g.found;
      mark = mark_cr bytes mark h.mark;
      lacks = lacks_more header_end bytes 13 h.lacks (ends_more (13 ∷ 10 ∷ 13 ∷ []) bytes 10 13
          ∙ and_right (ends (13 ∷ 10 ∷ 13 ∷ []) bytes) _ refl);
    }

flat_push : (lines : List (List ℕ)) (line : List ℕ)
    → ended (lines ++ line ∷ []) ≡ ended lines ++ (line ++ line_end)
flat_push [] line = append-nil (line ++ line_end)
flat_push (x ∷ xs) line =
    ap (λ ys. x ++ line_end ++ ys) (flat_push xs line)
    ∙ sym (append_assoc (x ++ line_end) (ended xs) (line ++ line_end))

each_push : (lines : List (List ℕ)) (line : List ℕ) → AllByRecursion (Lacks line_end) lines
    → Lacks line_end line
    → AllByRecursion (Lacks line_end) (lines ++ line ∷ [])
each_push [] line all one = (one, tt)
each_push (x ∷ xs) line all one = (all.0, each_push xs line all.1 one)

-- the end of a line
end_line : (limits : FrameLimits) (bytes : List ℕ) (count : ℕ) (findings : Findings)
    (line : LineScan)
    → IsScanOf limits bytes (scan_of count Cr findings line)
    → IsScanOf limits (bytes ++ 10 ∷ [])
    (scan_of (count + 1) CrLf (with_line limits findings line) (Name 0))
end_line limits bytes count findings line h = record {
  lines = h.lines ++ h.present ∷ [];
  present = [];
  count = counted bytes 10 count h.count;
  bytes_are =
      ap (λ xs. xs ++ 10 ∷ []) h.bytes_are
      ∙ append_assoc (ended h.lines) (h.present ++ 13 ∷ []) (10 ∷ [])
      ∙ ap (λ xs. ended h.lines ++ xs) (append_assoc h.present (13 ∷ []) (10 ∷ []))
      ∙ sym (flat_push h.lines h.present) ∙ sym (append-nil (ended (h.lines ++ h.present ∷ [])));
  each = each_push h.lines h.present h.each h.one_line;
  one_line = no_line_end;
  fits = refl;
  line = refl;
  found = found_more limits h.lines h.present findings line
      (subst (LineSays limits h.present) (sym h.line) (line_says limits h.present)) h.found;
  mark = mark_lf bytes Cr h.mark;
  lacks = lacks_more header_end bytes 10 h.lacks (ends_more (13 ∷ 10 ∷ 13 ∷ []) bytes 10 10
      ∙ and_left (ends (13 ∷ 10 ∷ 13 ∷ []) bytes) _ h.mark.three);
}

-- the end of the header part
end_header : (limits : FrameLimits) (bytes : List ℕ) (count : ℕ) (findings : Findings)
    (line : LineScan)
    → IsScanOf limits bytes (scan_of count CrLfCr findings line)
    → HeaderEnds limits (bytes ++ 10 ∷ []) findings
end_header limits bytes count findings line h =
    let all : length (bytes ++ 10 ∷ []) ≡ length bytes + 1 = length-append bytes (10 ∷ []) in
    record {
      lines = h.lines;
      are_lines = record {
        bytes = ap (λ xs. xs ++ 10 ∷ []) (h.bytes_are
            ∙ ap (λ xs. ended h.lines ++ (xs ++ 13 ∷ [])) h.fits)
            ∙ append_assoc (ended h.lines) (13 ∷ []) (10 ∷ []);
        each = h.each;
      };
      found = h.found;
      first = record {
        within = omega arith;
        ends = ap (λ p. ends_with nat_eq p header_end)
            (take_all (length (bytes ++ 10 ∷ [])) (bytes ++ 10 ∷ []) (omega arith))
            ∙ ends_more (13 ∷ 10 ∷ 13 ∷ []) bytes 10 10 ∙ and_true (ends (13 ∷ 10 ∷ 13 ∷ []) bytes)
            ∙ h.mark.three;
        first = λ j less. ends_at_front header_end (bytes ++ 10 ∷ []) bytes j (length bytes)
            (omega (arith, all)) (take-append-le (length bytes) bytes (10 ∷ []) (omega arith))
            ∙ h.lacks j (omega (arith, all));
      };
    }

at_line_feed : (limits : FrameLimits) (bytes : List ℕ) (count : ℕ) (mark : EndMark)
    (findings : Findings) (line : LineScan)
    → IsScanOf limits bytes (scan_of count mark findings line)
    → StepGives limits bytes 10 (at_lf limits (scan_of count mark findings line))
at_line_feed limits bytes count Nothing findings line h =
    push limits bytes count Nothing findings line 10 h refl refl (mark_lf bytes Nothing h.mark)
    (lacks_more header_end bytes 10 h.lacks (ends_more (13 ∷ 10 ∷ 13 ∷ []) bytes 10 10
    ∙ and_left (ends (13 ∷ 10 ∷ 13 ∷ []) bytes) _ h.mark.three))
at_line_feed limits bytes count Cr findings line h = end_line limits bytes count findings line h
at_line_feed limits bytes count CrLf findings line h =
    push limits bytes count CrLf findings line 10 h refl refl (mark_lf bytes CrLf h.mark)
    (lacks_more header_end bytes 10 h.lacks (ends_more (13 ∷ 10 ∷ 13 ∷ []) bytes 10 10
    ∙ and_left (ends (13 ∷ 10 ∷ 13 ∷ []) bytes) _ h.mark.three))
at_line_feed limits bytes count CrLfCr findings line h =
    end_header limits bytes count findings line h

-- the state after one more byte
pub scan_gives : (limits : FrameLimits) (bytes : List ℕ) (scan : HeaderScan) (b : ℕ)
    → IsScanOf limits bytes scan
    → StepGives limits bytes b (header_step limits scan b)
scan_gives limits bytes scan b h =
    elim (cases_Bool (nat_eq b 10)) [
      | inl lf ↦ (
          let is : b ≡ 10 = eqb-true b 10 lf in
          subst (λ c. StepGives limits bytes c (header_step limits scan c)) (sym is)
          (at_line_feed limits bytes scan.count scan.mark scan.findings scan.line h))
      | inr no_lf ↦ elim (cases_Bool (nat_eq b 13)) [
        | inl cr ↦ (
            let is : b ≡ 13 = eqb-true b 13 cr in
            subst (λ c. StepGives limits bytes c (header_step limits scan c)) (sym is)
            (push_cr limits bytes scan.count scan.mark scan.findings scan.line h))
        | inr no_cr ↦ (
            let no_lf' : nat_eq 10 b ≡ false = grind (arith, no_lf) in
            let no_cr' : nat_eq 13 b ≡ false = grind (arith, no_cr) in
            let next : HeaderScan =
            scan_of (scan.count + 1) Nothing scan.findings
            (line_step (held_line scan.mark scan.line) b) in
            let steps : header_step limits scan b ≡ Unfinished next = rw (no_lf, no_cr) refl in
            subst (StepGives limits bytes b) (sym steps)
            (push limits bytes scan.count scan.mark scan.findings scan.line b h no_cr'
            (and_right (is_cr scan.mark) _ no_lf') (mark_other bytes b no_cr' no_lf')
            (lacks_more header_end bytes b h.lacks (ends_more (13 ∷ 10 ∷ 13 ∷ []) bytes 10 b
            ∙ and_right (ends (13 ∷ 10 ∷ 13 ∷ []) bytes) _ no_lf'))))
      ]
    ]

-- the findings of zero lines
abbrev pub none_found : Findings
none_found = record { are_fields = true; has_length = false; length = Err NoLength }

-- the state before the first byte
pub scan_start : (limits : FrameLimits) → IsScanOf limits [] (scan_of 0 Nothing none_found (Name 0))
scan_start limits = record {
  lines = [];
  present = [];
  count = refl;
  bytes_are = refl;
  each = tt;
  one_line = no_line_end;
  fits = refl;
  line = refl;
  found = record { are_fields = refl; lengths = λ h. record { length = refl; has_length = refl } };
  mark = record { one = refl; two = refl; three = refl };
  lacks = no_header_end;
}
