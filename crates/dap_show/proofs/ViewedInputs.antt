-- The result of `show_with` and `show_faulty` after the records of an input were formatted.
use Rattle.std.proofs.Common.{◌≡◌, inl, inr, ℕ, ◌+◌, ◌≤◌, true, false, List, ◌++◌}
use Rattle.std.proofs.Common.{Option, Some, Result, Ok, Err, refl, sym, ◌∙◌, ap, subst, arith}
use Rattle.std.specs.Option.{option_or}
use Rattle.dap_device.specs.declared.device.Sink.{Ghosts as Sink}
use Rattle.dap_device.specs.declared.device.Source.{Ghosts as Source}
use Rattle.dap_input.proofs.Refusals.{untold}
use Rattle.dap_recording.specs.RecordReading.{RecordReading}
use Rattle.dap_input.specs.declared.limits.Limits.{Limits}
use Rattle.dap_input.specs.declared.records.Records.{Records}
use Rattle.dap_input.specs.declared.refused.Refused.{Refused}
use Rattle.dap_input.specs.declared.refused.Refused.TheVariants as because
use Rattle.dap_show.specs.Stopping.{StopsAt}
use Rattle.dap_show.specs.Viewing.{IsFraming, Shows, ShowsAll, ShowsInput, ViewsInput}
use Rattle.dap_show.specs.Viewing.{stop_line, viewing, without_marks}
use Rattle.dap_show.specs.ViewingSteps.{Finishes, ShowsRecords}
use Rattle.dap_show.specs.declared.detail.Detail.{Detail}
use Rattle.dap_show.specs.declared.detail.View.{View}
use Rattle.dap_show.proofs.Stopping.{gives_up_there, stopped_taken, stops_at_start}
use Rattle.dap_show.proofs.ViewingFacts.{reads_entries}

module _ {R : Type 0} (view : View) (source : Source R)
    (old new : R) where
  pub records_taken : (records : Records RecordReading) (stopped : Result (Unit {0}) Refused)
      (lines : List ℕ) (first : Option Refused)
      → ShowsRecords view source old new records lines first stopped
      → source.given new ≤ source.given old + view.limits.input + 1
  records_taken records (Ok done) lines first (entries, all, shown) =
      let counted = all.came.counted in let within = all.within in omega (arith, counted, within)
  records_taken records (Err refused) lines first (stops, one, shown) =
      stopped_taken (viewing view) source old new refused stops

  pub shown_lines : {U : Type 0} (done : U) (records : Records RecordReading)
      (stopped : Result (Unit {0}) Refused) (lines text : List ℕ) (first last : Option Refused)
      → ShowsRecords view source old new records lines first stopped
      → Finishes view.marks_faults stopped lines text first last (Ok done)
      → Shows view source old new text last
  shown_lines done records (Ok over) lines text first last (entries, all, shown) (same, kept) =
      inl (record {
        entries = entries;
        all = all;
        text_is = same ∙ shown.lines_are;
        first_is = kept ∙ shown.first_is;
      })
  shown_lines done records (Err refused) lines text first last (stops, one, shown)
      (marked, framing, text_is, last_is) =
      inr (record {
        marked = marked;
        refused = refused;
        framing = framing;
        stops = stops;
        text_is = text_is ∙ ap (λ t. t ++ stop_line refused) (shown framing).lines_are;
        first_is = last_is ∙ ap (λ o. option_or o (Some refused)) (shown framing).first_is;
      })

  module _ {W : Type 0} (sink : Sink W) (writer : W) where
    -- A writer has not failed before it is used.
    no_write_fault : StopsAt (viewing view) source old new because.WriteFault
        → ⊥
    no_write_fault stops =
        untold because.WriteFault stops.number stops.says.fault refl
        (λ same. absurd (let e = same in cc)) stops.says.tells

    pub none_viewed : ViewsInput view source sink old old writer writer
        (Err because.Memory)
    none_viewed = (
      (stops_at_start (viewing view)
          (reads_entries view).accepted source old).0,
      λ faulty framing. framing,
      refl,
    )

    pub refused_view : (other : Refused) (records : Records RecordReading)
        (stopped : Result (Unit {0}) Refused) (lines text : List ℕ) (first last : Option Refused)
        → ShowsRecords view source old new records lines first stopped
        → Finishes {V = Unit {0}} view.marks_faults stopped lines text first last (Err other)
        → ViewsInput view source sink old new writer writer (Err other)
    refused_view other records (Ok over) lines text first last shows finishes = absurd finishes
    refused_view because.Memory records (Err refused) lines text first last (stops, one, shown)
        finishes = (
          gives_up_there (viewing view) source old new refused stops,
          λ faulty framing. framing,
          refl,
        )
    refused_view because.WriteFault records (Err refused) lines text first last (stops, one, shown)
        finishes =
        absurd (no_write_fault
        (subst (StopsAt (viewing view) source old new) (sym finishes.0)
        stops))
    refused_view other records (Err refused) lines text first last (stops, one, shown) finishes = (
      subst (StopsAt (viewing view) source old new) (sym finishes.0) stops,
      λ faulty framing. finishes.1 faulty (subst IsFraming finishes.0 framing),
      refl,
    )

-- ---- without marks

module _ {R W : Type 0} (detail : Detail) (limits : Limits) (source : Source R) (sink : Sink W)
    (old new : R) (before after : W) where
  all_shown : (text : List ℕ) (first : Option Refused)
      → Shows (without_marks detail limits) source old new text first
      → ShowsAll (without_marks detail limits) source old new text first
  all_shown text first (inl all) = all
  all_shown text first (inr front) =
      absurd (let clash : false ≡ true = front.marked in cc)

  pub done_strictly : {U : Type 0} (done : U) (first : Option Refused)
      → ViewsInput (without_marks detail limits) source sink old new before after (Ok first)
      → ShowsInput detail limits source sink old new before after (Ok done)
  done_strictly done first (text, shows, sent) = (text, first, all_shown text first shows, sent)

  pub refused_strictly : (U : Type 0) (refused : Refused)
      → ViewsInput (without_marks detail limits) source sink old new before after (Err refused)
      → ShowsInput {U = U} detail limits source sink old new before after (Err refused)
  refused_strictly U because.WriteFault h = (h.0, h.1, all_shown h.0 h.1 h.2, h.3)
  refused_strictly U refused h = (h.0, h.2)
