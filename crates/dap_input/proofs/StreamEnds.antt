-- The result of an engine that writes the text of each validated record, when it stops: whatever it
-- stores about the records, their text was written.
use Rattle.std.proofs.Common.{◌≡◌, ◌≢◌, inl, inr, ℕ, ◌+◌, ◌≤◌, true, false, List, [], length}
use Rattle.std.proofs.Common.{Option, Some, None, Result, Ok, Err, refl, sym, ◌∙◌, ap, subst, arith}
use Rattle.std.proofs.Common.{append-nil}
use Rattle.std.proofs.lemmas.Bool.{true≢false}
use Rattle.std.specs.Prelude.{is_err}
use Rattle.std.specs.Io.KnownBytes.{Appends}
use Rattle.std.proofs.KnownBytes.{Appends-nil}
use Rattle.dap_device.specs.declared.device.Source.{Ghosts as Source}
use Rattle.dap_device.specs.declared.device.Sink.{Ghosts as Sink}
use Rattle.dap_device.specs.Device.{HasFlushedAll, HasTakenNothing}
use Rattle.dap_device.specs.Written.{AllSent, AllWritten, PrefixWritten, HasWrittenAll}
use Rattle.dap_device.specs.declared.device.DeviceFault.{DeviceFault}
use Rattle.dap_device.specs.declared.reading.Stop.{Stop}
use Rattle.dap_device.specs.declared.reading.Stop.TheVariants.{End}
use Rattle.dap_device.proofs.Sending.{kept, nothing_awaits, some_of_both}
use Rattle.dap_recording.specs.declared.record_fault.RecordCause.TheVariants.{Cut}
use Rattle.dap_input.specs.Engine.{Accepts}
use Rattle.dap_input.specs.InputSteps.{RefusalHolds}
use Rattle.dap_input.specs.Validation.{Validation}
use Rattle.dap_input.specs.Streaming.{Answers, Ends, Flushes, HasComeTo, HasFailedToWrite}
use Rattle.dap_input.specs.Streaming.{RanOutOfMemory, HasGivenUpAt, Streams}
use Rattle.dap_input.specs.declared.refused.Refused.{Refused}
use Rattle.dap_input.specs.declared.refused.Refused.TheVariants.{Record, WriteFault, Memory}
use Rattle.dap_input.proofs.Coming.{nothing_came}
use Rattle.dap_input.proofs.Refusals.{untold}

-- The effect of a written text on the writer.
pub all_written : {W U : Type 0} (sink : Sink W) (old new : W) (outcome : Result U DeviceFault)
    (bytes : List ℕ) → HasWrittenAll sink old new outcome bytes → is_err outcome ≡ false
    → AllWritten sink old new bytes
all_written sink old new (Ok done) bytes sent none = sent
all_written sink old new (Err fault) bytes sent none = absurd (true≢false none)

pub front_written : {W U : Type 0} (sink : Sink W) (old new : W) (outcome : Result U DeviceFault)
    (bytes : List ℕ) → HasWrittenAll sink old new outcome bytes → is_err outcome ≡ true
    → PrefixWritten sink old new bytes
front_written sink old new (Ok done) bytes sent some = absurd (true≢false (sym some))
front_written sink old new (Err fault) bytes sent some = sent

pub nothing_written : {W : Type 0} (sink : Sink W) (before : W) → AllWritten sink before before []
nothing_written sink before = record {
  appended = Appends-nil (sink.out before);
  awaits = nothing_awaits sink.unflushed before before refl;
  no_failure = refl;
}

-- If the result is `Memory`, the output had been written, and an allocation failed before.
pub memory_of : {W U : Type 0} (sink : Sink W) (waiting : List ℕ) (writer end : W)
    (because : Refused) (result : Result U Refused)
    → Ends sink waiting writer end (Err because) result → result ≡ Err Memory → because ≡ Memory
memory_of sink waiting writer end Memory result ends memory = refl
memory_of sink waiting writer end because result (inl (mid, all, inl done)) memory =
    let e = sym done.0 ∙ memory in cc
memory_of sink waiting writer end because result (inl (mid, all, inr failed)) memory =
    let e = sym failed.0 ∙ memory in cc
memory_of sink waiting writer end because result (inr (front, is)) memory =
    let e = sym is ∙ memory in cc

-- If all records were read, no allocation failed.
pub not_given_up : {W U : Type 0} (sink : Sink W) (waiting : List ℕ) (writer end : W) (done : U)
    (result : Result U Refused) → Ends sink waiting writer end (Ok done) result
    → result ≡ Err Memory → ⊥
not_given_up sink waiting writer end done result (inl (mid, all, inl flushed)) memory =
    let e = sym flushed.0 ∙ memory in cc
not_given_up sink waiting writer end done result (inl (mid, all, inr failed)) memory =
    let e = sym failed.0 ∙ memory in cc
not_given_up sink waiting writer end done result (inr (front, is)) memory =
    let e = sym is ∙ memory in cc

-- Nothing has been read.
pub none_come : {R : Type 0} (j : Validation) (Gives : List ℕ → List ℕ → Type 0)
    (source : Source R) (start : R) → j.IsAccepted [] [] → Gives [] []
    → HasComeTo j Gives source start start None 1 []
none_come j Gives source start accepted gives = record {
  bytes = [];
  came = nothing_came source start;
  read_to = record { before = []; last = []; split = refl; few = omega arith; ends = inl refl };
  before = record {
    values = [];
    front = [];
    rest = [];
    split = refl;
    accepted = accepted;
    is_number = omega arith;
  };
  gives = gives;
}

module _ {R W : Type 0} (j : Validation) (Gives Promises : List ℕ → List ℕ → Type 0)
    (source : Source R) (sink : Sink W) (start : R) (before : W) where
  -- Nothing has been read or written.
  pub given_up : j.IsAccepted [] [] → Gives [] []
      → RanOutOfMemory j Gives Promises source sink start start before before
  given_up accepted gives = record {
    number = 1;
    stop = None;
    text = [];
    to = none_come j Gives source start accepted gives;
    written = nothing_written sink before;
  }

  -- These bytes were received, and the text of the records before this one was written.
  module _ (after : R) (writer : W) (stop : Option Stop) (number : ℕ) (text : List ℕ)
      (to : HasComeTo j Gives source start after stop number text)
      (written : AllWritten sink before writer text) where
    abbrev pub Answer : W → Result (Unit {0}) Refused → Type 0
    Answer end outcome = Streams j Gives Promises source sink start after before end outcome

    pub given_up_at : RanOutOfMemory j Gives Promises source sink start after before writer
    given_up_at = record {
      number = number;
      stop = stop;
      text = text;
      to = to;
      written = written;
    }

    not_memory : (because : Refused) → because ≢ Memory → (end : W)
        (result : Result (Unit {0}) Refused) → Flushes sink writer end (Err because) result
        → result ≡ Err Memory → ⊥
    not_memory because other end result (inl done) memory =
        other (let e = sym done.0 ∙ memory in cc)
    not_memory because other end result (inr failed) memory = let e = sym failed.0 ∙ memory in cc

    -- an allocation failed, and this is the number of the next record to read
    pub gives_up : (because : Refused) (next : ℕ) → (because ≡ Memory → next ≤ number + 1)
        → (end : W) (result : Result (Unit {0}) Refused)
        → Answers sink writer end (Err because) result → result ≡ Err Memory
        → HasGivenUpAt j Gives Promises source sink next start after before end
    gives_up Memory next few end result (is, same) memory =
        subst (HasGivenUpAt j Gives Promises source sink next start after before) (sym same)
        (record {
          given_up = record {
            number = number;
            stop = stop;
            text = text;
            to = to;
            written = written;
          };
          none_lost = few refl;
        })
    gives_up because next few end result given memory =
        absurd (not_memory because (λ e. absurd (let same = e in cc)) end result given memory)

    -- a flush that fails
    failed_to_flush : (end : W)
        → HasTakenNothing sink.out sink.unflushed sink.failures writer end
        → HasFailedToWrite j Gives Promises source sink start after before end
    failed_to_flush end nothing = record {
      number = number;
      stop = stop;
      text = text;
      to = to;
      next = [];
      is_next = inl refl;
      count = 0;
      within = omega arith;
      written = subst (Appends (sink.out before) (sink.out end)) (sym (append-nil text))
          (kept (sink.out before) (sink.out writer) (sink.out end) text written.appended
          nothing.kept);
      awaits = some_of_both sink.unflushed before writer end (length text) 0 written.awaits
          (nothing_awaits sink.unflushed writer end nothing.awaits);
      failure = nothing.failure ∙ ap (λ n. n + 1) written.no_failure;
    }

    -- a successful flush
    flushed : (end : W) → HasFlushedAll sink.out sink.unflushed sink.failures writer end
        → AllSent sink before end text
    flushed end done = record {
      appended = kept (sink.out before) (sink.out writer) (sink.out end) text written.appended
          done.kept;
      flushed = done.flushed;
      no_failure = done.no_failure ∙ written.no_failure;
    }

    -- All records were received.
    pub streamed : Accepts source j.input Promises start after text → (end : W)
        (result : Result (Unit {0}) Refused) → Flushes sink writer end (Ok tt) result
        → Answer end result
    streamed accepts end result (inl done) =
        subst (Answer end) (sym done.0)
        (record { text = text; accepts = accepts; written = flushed end done.1 })
    streamed accepts end result (inr failed) =
        subst (Answer end) (sym failed.0) (failed_to_flush end failed.1)

    -- This record is rejected, or cannot be read.
    abbrev pub Told : Refused → Type 0
    Told because = RefusalHolds j to.bytes stop number because
        × ((n : ℕ) → because ≡ Record n Cut → stop ≡ Some End)

    refused_for : (because : Refused) → because ≢ Memory → Told because → (end : W)
        → HasFlushedAll sink.out sink.unflushed sink.failures writer end
        → Answer end (Err because)
    refused_for WriteFault other reported end done =
        absurd (untold WriteFault number reported.0.fault refl (λ e. absurd (let same = e in cc))
        reported.0.tells)
    refused_for Memory other reported end done = absurd (other refl)
    refused_for because other reported end done = record {
      text = text;
      refuses = record {
        number = number;
        stop = stop;
        to = to;
        refuses = reported.0;
        cut = reported.1;
      };
      written = flushed end done;
    }

    pub once_flushed : (because : Refused) → because ≢ Memory → Told because → (end : W)
        (result : Result (Unit {0}) Refused) → Flushes sink writer end (Err because) result
        → Answer end result
    once_flushed because other reported end result (inl done) =
        subst (Answer end) (sym done.0) (refused_for because other reported end done.1)
    once_flushed because other reported end result (inr failed) =
        subst (Answer end) (sym failed.0) (failed_to_flush end failed.1)

    pub refused : (because : Refused) → Told because → (end : W)
        (result : Result (Unit {0}) Refused) → Answers sink writer end (Err because) result
        → Answer end result
    refused Memory reported end result (is, same) =
        subst (Answer end) (sym is)
        (subst (RanOutOfMemory j Gives Promises source sink start after before) (sym same)
        given_up_at)
    refused because reported end result given =
        once_flushed because (λ same. absurd (let e = same in cc)) reported end result given
