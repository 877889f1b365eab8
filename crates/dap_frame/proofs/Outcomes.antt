-- Either a header part ends in the bytes, or they are incomplete. The scan of the bytes decides
-- which.
use Rattle.std.proofs.Common.{◌≡◌, ℕ, ◌≤◌, false, ◌⊎◌, inl, inr, List, [], ◌∷◌, ◌++◌, length, take}
use Rattle.std.proofs.Common.{drop, Err, refl, sym, ap, ◌∙◌, subst, arith}
use Rattle.std.proofs.lemmas.List.{append_assoc, append-nil, take-append-le, take-append-drop}
use Rattle.std.proofs.lemmas.List.{take-take, length-append, length-take-le}
use Rattle.std.proofs.lemmas.Bool.{cases_lt}
use Rattle.dap_frame.specs.declared.limits.FrameLimits.{FrameLimits}
use Rattle.dap_frame.specs.declared.fault.FrameFault.TheVariants.{HeaderTooLong}
use Rattle.dap_frame.specs.declared.header_scan.HeaderScan.{HeaderScan}
use Rattle.dap_frame.specs.declared.header_scan.ScanStep.{ScanStep}
use Rattle.dap_frame.specs.declared.header_scan.ScanStep.TheVariants.{Unfinished, Ended}
use Rattle.dap_frame.specs.declared.header_scan.Findings.{Findings}
use Rattle.dap_frame.specs.Grammar.{HasEnd}
use Rattle.dap_frame.specs.Lines.{header_end, Lacks, ends_at}
use Rattle.dap_frame.specs.Frame.{in_header, too_long, headers, parsed_length}
use Rattle.dap_frame.specs.HeaderScan.{IsScanOf, HeaderEnds, StepGives, header_step}
use Rattle.dap_frame.proofs.MarkEnds.{ends_at_front}
use Rattle.dap_frame.proofs.HeaderParts.{header_begins}
use Rattle.dap_frame.proofs.ScanSteps.{scan_gives, scan_start}

-- the bytes start with a header part of any length
record HasHeader (limits : FrameLimits) (bytes : List ℕ) : Type 0 where
  header : List ℕ
  behind : List ℕ
  findings : Findings
  bytes_are : bytes ≡ header ++ behind
  ends : HeaderEnds limits header findings

after_step : (limits : FrameLimits) (bytes more : List ℕ) (b : ℕ) (step : ScanStep)
    → StepGives limits bytes b step
    → ((next : HeaderScan) → IsScanOf limits (bytes ++ b ∷ []) next
    → HasHeader limits ((bytes ++ b ∷ []) ++ more)
    ⊎ Lacks header_end ((bytes ++ b ∷ []) ++ more))
    → HasHeader limits ((bytes ++ b ∷ []) ++ more) ⊎ Lacks header_end ((bytes ++ b ∷ []) ++ more)
after_step limits bytes more b (Unfinished next) gives go_on = go_on next gives
after_step limits bytes more b (Ended findings) gives go_on =
    inl (record {
      header = bytes ++ b
          ∷ [];
      behind = more;
      findings = findings;
      bytes_are = refl;
      ends = gives;
    })

-- the scan of the bytes continues until a header part ends, or to their end
scanned : (limits : FrameLimits) (bytes more : List ℕ) (scan : HeaderScan)
    → IsScanOf limits bytes scan
    → HasHeader limits (bytes ++ more) ⊎ Lacks header_end (bytes ++ more)
scanned limits bytes [] scan is = inr (subst (Lacks header_end) (sym (append-nil bytes)) is.lacks)
scanned limits bytes (b ∷ more) scan is =
    subst (λ xs. HasHeader limits xs ⊎ Lacks header_end xs) (append_assoc bytes (b ∷ []) more)
    (after_step limits bytes more b (header_step limits scan b) (scan_gives limits bytes scan b is)
    (λ next is_next. scanned limits (bytes ++ b ∷ []) more next is_next))

-- a prefix as long as the limit in which no header part ends
cut_off : (limits : FrameLimits) (bytes : List ℕ) → limits.header ≤ length bytes
    → ((j : ℕ) → j ≤ limits.header → ends_at header_end bytes j ≡ false)
    → HasEnd (headers limits) bytes
cut_off limits bytes long none =
    let len = length-take-le limits.header bytes long in
    record {
      front = take limits.header bytes;
      more = drop limits.header bytes;
      result = Err HeaderTooLong;
      bytes_are = sym (take-append-drop limits.header bytes);
      ends = too_long len (λ j within.
          ends_at_front header_end (take limits.header bytes) bytes j limits.header
          (omega (arith, len)) (take-take limits.header limits.header bytes (omega arith))
          ∙ none j (omega (arith, len)));
    }

pub some_header : (limits : FrameLimits) (bytes : List ℕ)
    → HasEnd (headers limits) bytes ⊎ (headers limits).IsOpen bytes
some_header limits bytes =
    elim (scanned limits [] bytes _ (scan_start limits)) [
      | inl has ↦ inl (elim (cases_lt limits.header (length has.header)) [
        | inl late ↦ cut_off limits bytes
            (omega (arith, ap length has.bytes_are, length-append has.header has.behind))
            (λ j within.
            ends_at_front header_end bytes has.header j limits.header within
            (ap (take limits.header) has.bytes_are
            ∙ take-append-le limits.header has.header has.behind (omega arith))
            ∙ has.ends.first.first j (omega arith))
        | inr within ↦ record {
          front = has.header;
          more = has.behind;
          result = parsed_length limits has.ends.lines;
          bytes_are = has.bytes_are;
          ends = in_header (header_begins limits has.header has.findings has.ends within);
        }
      ])
      | inr lacks ↦ elim (cases_lt (length bytes) limits.header) [
        | inl short ↦ inr (short, lacks)
        | inr long ↦ inl (cut_off limits bytes long (λ j within. lacks j (omega arith)))
      ]
    ]
