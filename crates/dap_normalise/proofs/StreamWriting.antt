-- The results of `normalise`, and what it has then written.
use Rattle.std.proofs.Common.{◌≡◌, ℕ, ℤ, List, [], ◌++◌, Result, Ok, Err, refl}
use Rattle.std.proofs.Common.{◌∙◌, subst}
use Rattle.dap_device.specs.declared.device.Source.{Ghosts as Source}
use Rattle.dap_device.specs.declared.device.Sink.{Ghosts as Sink}
use Rattle.dap_device.specs.Pieces.{HasPaused}
use Rattle.dap_device.specs.Written.{AllWritten}
use Rattle.dap_input.specs.Limits.{AreSound}
use Rattle.dap_input.specs.declared.limits.Limits.{Limits}
use Rattle.dap_input.specs.declared.refused.Refused.{Refused}
use Rattle.dap_input.specs.declared.refused.Refused.TheVariants.{Memory}
use Rattle.dap_input.proofs.Coming.{none_counted}
use Rattle.dap_input.proofs.PendingTexts.{Passes, Waiting}
use Rattle.dap_input.proofs.PendingTexts as pending
use Rattle.dap_input.proofs.StreamEnds as ends
use Rattle.dap_rename.specs.declared.mode.Mode.{Mode}
use Rattle.dap_normalise.specs.declared.normal_records.NormalRecords.{NormalRecords}
use Rattle.dap_normalise.specs.Accepting.{accepting, text}
use Rattle.dap_normalise.specs.JudgingSteps.{record_of}
use Rattle.dap_normalise.specs.NormalSteps.{HasAdvanced, HasEnded, HasStoppedAt, IsBuffered}
use Rattle.dap_normalise.specs.Normalising.{IsCanonical, Normalises}
use Rattle.dap_normalise.specs.Streaming.{Ends, HasFailedToWrite, HasGivenUpAt, RanOutOfMemory}
use Rattle.dap_normalise.specs.Streaming.{Streams}
use Rattle.dap_normalise.proofs.AcceptingFacts.{none_normalised}
use Rattle.dap_normalise.proofs.JudgedRecords.{text_push}
use Rattle.dap_normalise.proofs.NormalFormLaws.{canonical}
use Rattle.dap_normalise.proofs.StreamLoop.{Going, all_came, here, next_number, normal_before}
use Rattle.dap_normalise.proofs.StreamLoop.{on}

-- Nothing has been read or written.
pub given_up : {R W : Type 0} (source : Source R) (sink : Sink W) (limits : Limits) (mode : Mode)
    (start : R) (before : W) → RanOutOfMemory source sink limits mode start start before before
given_up source sink limits mode start before =
    let none = none_normalised limits mode in
    ends.given_up (accepting limits mode) (Normalises limits mode) (IsCanonical limits mode)
    source sink start before none.accepts none

-- The normal form of the records was written, or is buffered as long as the next record is.
abbrev pub Waits : {T W : Type 0} → Limits → Mode → NormalRecords T → Sink W → W → W → List ℕ
    → List ℕ → List ℕ → Type 0
Waits limits mode records sink before writer =
    Waiting (accepting limits mode) (Normalises limits mode) sink before writer
    (IsBuffered limits records)

module _ {T R : Type 0} {numbers : T → List ℤ} {table_limit : T → ℕ} {source : Source R}
    {limits : Limits} {mode : Mode} {start reader : R} {records : NormalRecords T}
    (was : Going numbers table_limit source limits mode start reader records) where
  -- If an allocation fails at a record, the reader has not failed.
  pub unfailed : {new : NormalRecords T} {after : R} {because : Refused}
      → HasStoppedAt numbers table_limit source limits mode was.bytes was.messages was.normal
      records new reader after because
      → because ≡ Memory → source.failures after ≡ source.failures start
  unfailed {after = after} stopped memory =
      subst (HasPaused source reader after) (stopped.goes_on memory) stopped.came.paused
      ∙ was.came.paused

  pub none_waiting : {W : Type 0} {sink : Sink W} {before writer : W}
      → AllWritten sink before writer (text was.normal)
      → Waits limits mode records sink before writer was.bytes (text was.normal) []
  none_waiting = pending.none_waiting (IsCanonical limits mode) (here was)

  module _ {W : Type 0} {sink : Sink W} {before writer : W} {waiting : List ℕ}
      (waits : Waits limits mode records sink before writer was.bytes (text was.normal) waiting)
      {new : NormalRecords T} {after : R}
      (same_given : IsBuffered limits records → source.given after ≡ source.given reader) where
    -- ---- the engine stops here

    pub all_streamed : AreSound limits → {text_before longer : List ℕ}
        → HasEnded numbers table_limit source limits mode was.bytes was.messages
        was.normal records new reader after text_before longer
        → (end : W) (outcome : Result (Unit {0}) Refused)
        → Ends sink waiting writer end (Ok tt) outcome
        → Streams source sink limits mode start after before end outcome
    all_streamed sound ended =
        pending.streamed (IsCanonical limits mode) (here was) waits ended.came ended.read_to
        (λ has. none_counted source ended.came (same_given has)) (record {
          whole = was.bytes ++ ended.more;
          came = all_came was ended;
          gives = canonical limits mode sound (was.bytes ++ ended.more) (text was.normal)
              (record {
                messages = was.messages;
                accepts = ended.accepted;
                normal = was.normal;
                is_normal = normal_before was.represents;
                text_is = refl;
              });
        })

    module _ {because : Refused}
        (stopped : HasStoppedAt numbers table_limit source limits mode was.bytes was.messages
        was.normal records new reader after because) (end : W)
        (outcome : Result (Unit {0}) Refused)
        (ends_so : Ends sink waiting writer end (Err because) outcome) where
      pub all_refused : Streams source sink limits mode start after before end outcome
      all_refused =
          pending.refused (IsCanonical limits mode) (here was) waits stopped.came stopped.read_to
          (λ has. none_counted source stopped.came (same_given has)) because
          (stopped.says, stopped.cut) end outcome ends_so

      pub all_given_up : outcome ≡ Err Memory
          → HasGivenUpAt source sink limits mode new.records.number start after before end
      all_given_up =
          pending.gives_up (IsCanonical limits mode) (here was) waits stopped.came stopped.read_to
          (λ has. none_counted source stopped.came (same_given has)) because new.records.number
          stopped.last end outcome ends_so

    -- ---- one more record

    pub passed : {longer : List ℕ}
        → (gone : HasAdvanced numbers table_limit source limits mode was.bytes was.messages
        was.normal records new reader after waiting longer)
        → Passes (accepting limits mode) (Normalises limits mode) sink before writer
        (IsBuffered limits new) (HasFailedToWrite source sink limits mode start after before)
        (on was gone).bytes (text (on was gone).normal) longer
    passed gone =
        let to = here (on was gone) in
        pending.passed (IsCanonical limits mode) (here was) waits gone.came gone.read_to
        (λ has. none_counted source gone.came (same_given has)) (record_of gone.named)
        (next_number was gone) (text_push was.normal gone.named) gone.appended
        (to.before, to.gives)
