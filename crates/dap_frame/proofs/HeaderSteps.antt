-- The effect of one more byte of a chunk on a header part.
use Rattle.std.proofs.Common.{refl, ◌≡◌, ℕ, ◌+◌, ◌<◌, ◌≤◌, List, [], ◌∷◌, ◌++◌, length, take, drop}
use Rattle.std.proofs.Common.{get_or, Result, Ok, Err, sym, ap, ◌∙◌, subst, arith}
use Rattle.std.proofs.lemmas.List.{take_more, take-append-drop, append_assoc, length-append}
use Rattle.std.proofs.lemmas.List.{length-take-le}
use Rattle.dap_frame.specs.Combinators.{in_first}
use Rattle.dap_frame.specs.declared.limits.FrameLimits.{FrameLimits}
use Rattle.dap_frame.specs.declared.fault.FrameFault.{FrameFault}
use Rattle.dap_frame.specs.declared.fault.FrameFault.TheVariants.{HeaderTooLong}
use Rattle.dap_frame.specs.declared.header_scan.HeaderScan.{HeaderScan}
use Rattle.dap_frame.specs.declared.header_scan.ScanStep.TheVariants.{Unfinished, Ended}
use Rattle.dap_frame.specs.declared.header_scan.Findings.{Findings}
use Rattle.dap_frame.specs.Frame.{BeginsWith, EndsHeader, in_header, too_long, parsed_length}
use Rattle.dap_frame.specs.Frame.{FailsAt}
use Rattle.dap_frame.specs.Findings.{AreFindings}
use Rattle.dap_frame.specs.HeaderScan.{header_step, IsScanOf, StepGives, HeaderEnds}
use Rattle.dap_frame.specs.Progress.{HasEnded, ShowsInHeader}
use Rattle.dap_frame.proofs.HeaderFindings.{judged-small, judged-fault}
use Rattle.dap_frame.proofs.HeaderParts.{header_begins}
use Rattle.dap_frame.proofs.ScanSteps.{scan_gives}

module _ (limits : FrameLimits) (rest piece : List ℕ) (i : ℕ) (scan : HeaderScan) (lt : i
    < length piece) (so_far : IsScanOf limits (rest ++ take i piece) scan) where
  bytes_more : (rest ++ take i piece) ++ get_or piece i 0 ∷ [] ≡ rest ++ take (i + 1) piece
  bytes_more =
      append_assoc rest (take i piece) _ ∙ ap (λ xs. rest ++ xs) (sym (take_more piece i 0 lt))

  long : length (rest ++ take (i + 1) piece) ≡ length (rest ++ take i piece) + 1
  long = omega (
    arith,
    length-append rest (take (i + 1) piece),
    length-append rest (take i piece),
    length-take-le (i + 1) piece (omega arith),
    length-take-le i piece (omega arith),
  )

  whole : (rest ++ take (i + 1) piece) ++ drop (i + 1) piece ≡ rest ++ piece
  whole = append_assoc rest (take (i + 1) piece) (drop (i + 1) piece)
      ∙ ap (λ xs. rest ++ xs) (take-append-drop (i + 1) piece)

  pub gives_more : (next : HeaderScan)
      → Unfinished next ≡ header_step limits scan (get_or piece i 0)
      → IsScanOf limits (rest ++ take (i + 1) piece) next
  gives_more next e =
      subst (λ bytes. IsScanOf limits bytes next) bytes_more
      (subst (StepGives limits (rest ++ take i piece) (get_or piece i 0)) (sym e)
      (scan_gives limits (rest ++ take i piece) scan (get_or piece i 0) so_far))

  gives_ended : (findings : Findings) → Ended findings ≡ header_step limits scan (get_or piece i 0)
      → HeaderEnds limits (rest ++ take (i + 1) piece) findings
  gives_ended findings e =
      subst (λ bytes. HeaderEnds limits bytes findings) bytes_more
      (subst (StepGives limits (rest ++ take i piece) (get_or piece i 0)) (sym e)
      (scan_gives limits (rest ++ take i piece) scan (get_or piece i 0) so_far))

  module _ (short : length (rest ++ take i piece) < limits.header) where
    begins : (findings : Findings) (said : Result ℕ FrameFault)
        → Ended findings ≡ header_step limits scan (get_or piece i 0)
        → ((lines : List (List ℕ)) → AreFindings limits lines findings
        → said ≡ parsed_length limits lines)
        → BeginsWith limits (rest ++ take (i + 1) piece) (length (rest ++ take (i + 1) piece)) said
    begins findings said e found =
        let h = gives_ended findings e in
        let bytes : List ℕ = rest ++ take (i + 1) piece in
        subst (BeginsWith limits bytes (length bytes)) (sym (found h.lines h.found))
        (header_begins limits bytes findings h (omega (arith, long)))

    pub has_ended : (findings : Findings) (content : ℕ)
        → Ended findings ≡ header_step limits scan (get_or piece i 0)
        → ((lines : List (List ℕ)) → AreFindings limits lines findings
        → Ok content ≡ parsed_length limits lines)
        → HasEnded limits rest piece (scan.count + 1) content (i + 1)
    has_ended findings content e found =
        let header_len : scan.count + 1 ≡ length (rest ++ take (i + 1) piece) =
        omega (arith, long, so_far.count) in
        let b = begins findings (Ok content) e found in
        record {
          within = omega arith;
          some = omega arith;
          header_len_is = header_len;
          header = subst (λ n. BeginsWith limits (rest ++ take (i + 1) piece) n (Ok content))
              (sym header_len) b;
          small = judged-small limits b.says.lines content (sym b.says.said_so);
        }

    -- the consumed prefix proves the error
    shown : {fault : FrameFault} → EndsHeader limits (rest ++ take (i + 1) piece) (Err fault)
        → FailsAt limits (rest ++ piece) fault (length (rest ++ take (i + 1) piece))
    shown {fault} ends =
        record {
          front = rest
              ++ take (i + 1) piece;
          more = drop (i + 1) piece;
          bytes_are = sym whole;
          ends =
              in_first fault ends refl;
          place = refl;
        }

    pub header_fault : (findings : Findings) (fault : FrameFault)
        → Ended findings ≡ header_step limits scan (get_or piece i 0)
        → ((lines : List (List ℕ)) → AreFindings limits lines findings
        → Err fault ≡ parsed_length limits lines)
        → ShowsInHeader limits rest piece fault
    header_fault findings fault e found =
        let b = begins findings (Err fault) e found in
        record {
          no_memory = (judged-fault limits b.says.lines fault (sym b.says.said_so)).1;
          place = length (rest ++ take (i + 1) piece);
          shown = shown (in_header b);
        }

    pub header_too_long : (next : HeaderScan)
        → Unfinished next ≡ header_step limits scan (get_or piece i 0)
        → limits.header ≤ next.count → ShowsInHeader limits rest piece HeaderTooLong
    header_too_long next e past =
        let h = gives_more next e in
        let many = h.count in
        record {
          no_memory = λ same. cc;
          place = length (rest ++ take (i + 1) piece);
          shown = shown (too_long (omega (arith, long)) h.lacks);
        }
