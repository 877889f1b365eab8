-- The invariant of the loop over the records of an input that is printed as lines, and its possible
-- results.
use Rattle.std.proofs.Common.{◌≡◌, ℕ, ◌+◌, ◌-◌, ◌<◌, ◌≤◌, ◌^◌, List, [], ◌∷◌, ◌++◌, length}
use Rattle.std.proofs.Common.{Option, Some, None, Result, Ok, Err, sym, ◌∙◌, ap₂}
use Rattle.std.specs.Option.{option_or}
use Rattle.dap_device.specs.declared.device.Source.{Ghosts as Source}
use Rattle.dap_recording.specs.RecordReading.{RecordReading}
use Rattle.dap_recording.specs.declared.record.Record.{Record as WholeRecord}
use Rattle.dap_session.specs.SessionState.{SessionState}
use Rattle.dap_session.specs.Representation.{Represents}
use Rattle.dap_input.specs.ItemReading.{RepresentsRecord, record_items}
use Rattle.dap_input.specs.RecordSteps.{IsAtStart, ReadsNextRecord}
use Rattle.dap_input.specs.Validation.{ContentError}
use Rattle.dap_input.specs.Refusals.{RejectsPayload}
use Rattle.dap_recording.specs.declared.record_fault.RecordCause.TheVariants as cause
use Rattle.dap_input.specs.declared.records.Records.{Records}
use Rattle.dap_input.specs.declared.refused.Refused.{Refused}
use Rattle.dap_input.specs.declared.refused.Refused.TheVariants as because
use Rattle.dap_input.proofs.WholeInputs.{Going, accepts_all, at_start, few_failures, fewer_left}
use Rattle.dap_input.proofs.WholeInputs.{on, refuses_held, refuses_read, small_count, small_number}
use Rattle.dap_normalise.specs.JudgingSteps.{payload_of}
use Rattle.dap_show.specs.Viewing.{Entry, IsFraming, kept}
use Rattle.dap_show.specs.Viewing.{viewing, Rejects}
use Rattle.dap_show.specs.ViewingSteps.{AreShown, IsEntered, ShowsRecords, StandsIf}
use Rattle.dap_show.specs.declared.detail.View.{View}
use Rattle.dap_show.proofs.EntryLines.{refusal_push}
use Rattle.dap_show.proofs.Stopping.{stops_held, stops_read}
use Rattle.dap_show.proofs.ViewingFacts.{reads_entries}

-- The records before the next one have entries, and their lines have been appended.
pub record Viewed {R : Type 0} (view : View) (source : Source R) (start reader : R)
    (records : Records RecordReading) (session : SessionState) (lines : List ℕ)
    (first : Option Refused) : Type 0 where
  pub entries : List Entry
  pub going : Going (viewing view) (RepresentsRecord view.limits.frame) source start reader records
      entries
  pub session_is : StandsIf view.marks_faults session (kept entries)
  pub shown : AreShown view entries lines first

-- The rejection of a record for its content is not an error of the framing.
held_not_framing : (Rejects : ContentError → Type 0) (n : ℕ) (refused : Refused)
    → RejectsPayload Rejects n refused → IsFraming refused → ⊥
held_not_framing Rejects n (because.Record m cause.Cut) h framing = h.1
held_not_framing Rejects n (because.Record m cause.Memory) h framing = h
held_not_framing Rejects n (because.Record m why) h framing = h.1
held_not_framing Rejects n (because.InputTooLong m) h framing = h.1
held_not_framing Rejects n refused h framing = absurd framing

module _ {R : Type 0} (view : View) (source : Source R)
  where
    pub none_viewed : (reader : R) (records : Records RecordReading) (session : SessionState)
        (lines : List ℕ) (first : Option Refused)
        → IsAtStart (RepresentsRecord view.limits.frame) view.limits.input records
        → Represents session [] → lines ≡ [] → first ≡ None
        → Viewed view source reader reader records session lines first
    none_viewed reader records session lines first start represents no_lines no_first = record {
      entries = [];
      going = at_start (viewing view) (record_items view.limits.frame) payload_of
          (reads_entries view) (RepresentsRecord view.limits.frame) source reader records start;
      session_is = λ faulty. represents;
      shown = record { lines_are = no_lines; first_is = no_first };
    }

    module _ (start reader : R) (records : Records RecordReading) (session : SessionState)
        (lines : List ℕ)
        (first : Option Refused)
        (was : Viewed view source start reader records session lines first)
      where
        pub few_records : view.limits.input ≤ 2 ^ 62 → records.number < 2 ^ 63
        few_records =
            small_number (viewing view) (record_items view.limits.frame) payload_of
            (reads_entries view) (RepresentsRecord view.limits.frame) source start reader records
            was.entries was.going

        pub few_given : view.limits.input ≤ 2 ^ 62 → source.given start < 2 ^ 62
            → source.given reader + (records.pieces.limit - records.pieces.taken) < 2 ^ 63
        few_given =
            small_count (viewing view) (record_items view.limits.frame) payload_of
            (reads_entries view) (RepresentsRecord view.limits.frame) source start reader records
            was.entries was.going

        pub few_failed : source.failures start < 2 ^ 62 → source.failures reader < 2 ^ 63
        few_failed =
            few_failures (viewing view) (record_items view.limits.frame) payload_of
            (reads_entries view) (RepresentsRecord view.limits.frame) source start reader records
            was.entries was.going

        module _ (new : Records RecordReading) (after : R) where
          abbrev Reads : Result (Option WholeRecord) Refused → Type 0
          Reads outcome =
              ReadsNextRecord view.limits.frame source records new reader after outcome

          pub not_read : (refused : Refused) → Reads (Err refused)
              → ShowsRecords view source {U = Unit {0}} start after new lines first (Err refused)
          not_read refused read = (
            stops_read (viewing view) (record_items view.limits.frame) payload_of
                (reads_entries view) (RepresentsRecord view.limits.frame) source start reader
                records was.entries was.going new after refused read,
            refuses_read (viewing view) (record_items view.limits.frame) payload_of
                (reads_entries view) (RepresentsRecord view.limits.frame) source start reader
                records was.entries was.going new after refused read,
            λ framing. was.shown,
          )

          pub all_viewed : {U : Type 0} (done : U) → Reads (Ok None)
              → ShowsRecords view source start after new lines first (Ok done)
          all_viewed done read = (
            was.entries,
            accepts_all (viewing view) (record_items view.limits.frame) payload_of
                (reads_entries view) (RepresentsRecord view.limits.frame) source start reader
                records was.entries was.going new after read,
            was.shown,
          )

          pub not_entered : (whole : WholeRecord) (longer : List ℕ) (refused : Refused)
              → Reads (Ok (Some whole))
              → RejectsPayload (Rejects view was.entries (payload_of whole)) records.number refused
              → ShowsRecords view source {U = Unit {0}} start after new longer first (Err refused)
          not_entered whole longer refused read refuses = (
            stops_held (viewing view) (record_items view.limits.frame) payload_of
                (reads_entries view) (RepresentsRecord view.limits.frame) source start reader
                records was.entries was.going new after whole read refused refuses,
            refuses_held (viewing view) (record_items view.limits.frame) payload_of
                (reads_entries view) (RepresentsRecord view.limits.frame) source start reader
                records was.entries was.going new after whole read refused refuses,
            λ framing. absurd (held_not_framing (Rejects view was.entries (payload_of whole))
                records.number refused refuses framing),
          )

          pub one_more : (whole : WholeRecord) (kept_now : SessionState) (longer : List ℕ)
              (refusal last : Option Refused) → Reads (Ok (Some whole))
              → IsEntered view was.entries records.number (payload_of whole) kept_now longer refusal
              → last ≡ option_or first refusal
              → Viewed view source start after new kept_now longer last
          one_more whole kept_now longer refusal last read entered noted = record {
            entries = was.entries ++ entered.entry ∷ [];
            going = on (viewing view) (record_items view.limits.frame) payload_of
                (reads_entries view) (RepresentsRecord view.limits.frame) source start reader
                records was.entries was.going new after whole read entered.entry entered.is_next;
            session_is = entered.session_is;
            shown = record {
              lines_are = entered.lines_are;
              first_is = noted ∙ ap₂ option_or was.shown.first_is entered.refusal_is
                  ∙ sym (refusal_push 1 records.number was.entries entered.entry
                  was.going.behind.number_is);
            };
          }

          pub fewer : (whole : WholeRecord) → Reads (Ok (Some whole))
              → (new.pieces.limit - new.pieces.taken) + length new.pieces.unread
              < (records.pieces.limit - records.pieces.taken) + length records.pieces.unread
          fewer =
              fewer_left (viewing view) (record_items view.limits.frame) payload_of
              (reads_entries view) (RepresentsRecord view.limits.frame) source start reader records
              was.entries was.going new after
