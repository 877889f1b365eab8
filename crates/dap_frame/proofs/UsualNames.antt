-- The field name that written frames start with is read in one step.
use Rattle.std.proofs.Common.{◌≡◌, ℕ, ◌+◌, List, [], ◌++◌, length, take, codes}
use Rattle.std.proofs.Common.{Ok, sym, ap, ◌∙◌, subst, arith, Bor, Some, true}
use Rattle.std.proofs.Common.{drop, nat_eq}
use Rattle.std.specs.Cmp.Lexicographic.{pointwise}
use Rattle.std.proofs.lemmas.Bool.Decides.{Decides-eqb}
use Rattle.std.proofs.lemmas.Slice.Eq.{strip_prefix_is}
use Rattle.std.proofs.lemmas.List.{length-append}
use Rattle.std.proofs.Math.Seq.{take-append-add}
use Rattle.dap_frame.specs.declared.limits.FrameLimits.{FrameLimits}
use Rattle.dap_frame.specs.declared.fault.FrameFault.{FrameFault}
use Rattle.dap_frame.specs.declared.length_scan.LengthScan.TheVariants.{Blank}
use Rattle.dap_frame.specs.declared.line_scan.LineScan.TheVariants.{Length}
use Rattle.dap_frame.specs.declared.header_scan.EndMark.TheVariants.{Nothing}
use Rattle.dap_frame.specs.declared.header_scan.HeaderScan.{HeaderScan}
use Rattle.dap_frame.specs.Frame.{BeginsWith, FailsAt}
use Rattle.dap_frame.specs.HeaderScan.{IsScanOf}
use Rattle.dap_frame.specs.Progress.{GoesOn, HasEnded, ShowsInHeader}
use Rattle.dap_frame.proofs.ScanSteps.{none_found, scan_of}
use Rattle.dap_frame.proofs.WrittenFrames.{name_scan}

abbrev pub name_text : List ℕ
name_text = codes "Content-Length: "

pub name_scanned : (limits : FrameLimits)
    → IsScanOf limits name_text (scan_of 16 Nothing none_found (Length Blank))
name_scanned limits = name_scan limits

-- a chunk that starts with the name
pub is_behind : (piece : List ℕ) (behind : Bor (List ℕ))
    → (pointwise nat_eq (take 16 piece) name_text ≡ true) × (behind.now ≡ drop 16 piece)
    × (length behind.now + 16 ≡ length piece)
    → piece ≡ name_text ++ behind.now
is_behind piece behind found = strip_prefix_is Decides-eqb piece name_text (Some behind) found

-- facts about the bytes after the name, stated about the bytes with it
module _ (limits : FrameLimits) (piece behind : List ℕ) (is : piece ≡ name_text ++ behind) where
  pub goes_on : (scan : HeaderScan) → GoesOn limits name_text behind scan
      → GoesOn limits [] piece scan
  goes_on scan on = record {
    scanned = subst (λ bytes. IsScanOf limits bytes scan) (sym is) on.scanned;
    short = omega (arith, ap length is, on.short);
  }

  taken : (used : ℕ) → take (used + 16) piece ≡ name_text ++ take used behind
  taken used =
      ap (λ n. take n piece) (let same : used + 16 ≡ 16 + used = omega arith in same)
      ∙ ap (take (16 + used)) is ∙ take-append-add name_text behind used

  pub has_ended : (header_len content_len used : ℕ)
      → HasEnded limits name_text behind header_len content_len used
      → HasEnded limits [] piece header_len content_len (used + 16)
  has_ended header_len content_len used ended = record {
    within = omega (arith, ap length is, length-append name_text behind, ended.within);
    some = omega arith;
    header_len_is = ended.header_len_is ∙ ap length (sym (taken used));
    header = subst (λ bytes. BeginsWith limits bytes header_len (Ok content_len))
        (sym (taken used)) ended.header;
    small = ended.small;
  }

  pub shows_fault : (fault : FrameFault) → ShowsInHeader limits name_text behind fault
      → ShowsInHeader limits [] piece fault
  shows_fault fault shows = record {
    no_memory = shows.no_memory;
    place = shows.place;
    shown = subst (λ bytes. FailsAt limits bytes fault shows.place) (sym is) shows.shown;
  }
