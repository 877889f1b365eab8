-- The invariant of the loop over the records of an input, and its possible results.
use Rattle.std.proofs.Common.{◌≡◌, ℕ, ◌+◌, ◌-◌, ◌<◌, ◌≤◌, List, [], ◌∷◌, ◌++◌, Option}
use Rattle.std.proofs.Common.{Some, None, Result, Ok, Err, sym, ap, subst, arith, length}
use Rattle.dap_device.specs.declared.device.Source.{Ghosts as Source}
use Rattle.dap_device.specs.declared.device.Sink.{Ghosts as Sink}
use Rattle.dap_device.specs.Written.{AllWritten}
use Rattle.dap_frame.specs.Grammar.{HasItem}
use Rattle.dap_message.specs.Message.{Sent}
use Rattle.dap_recording.specs.RecordReading.{RecordReading}
use Rattle.dap_recording.specs.declared.record.Record.{Record as WholeRecord}
use Rattle.dap_recording.specs.RecordReading.{HasMarkedContent}
use Rattle.dap_input.specs.ItemReading.{RepresentsRecord, record_items}
use Rattle.dap_input.specs.ReadTo.{IsReadTo}
use Rattle.dap_input.specs.RecordSteps.{Finds, IsAtStart, ReadsNextRecord}
use Rattle.dap_input.specs.Streaming.{HasComeTo, HasFailedToWrite, RanOutOfMemory}
use Rattle.dap_input.specs.Streaming.{HasGivenUpAt, Streams}
use Rattle.dap_input.specs.declared.limits.Limits.{Limits}
use Rattle.dap_input.specs.declared.records.Records.{Records}
use Rattle.dap_input.specs.declared.refused.Refused.{Refused}
use Rattle.dap_input.specs.declared.refused.Refused.TheVariants.{Memory}
use Rattle.dap_input.proofs.Coming.{whole_came}
use Rattle.dap_input.proofs.InputSteps as steps
use Rattle.dap_input.proofs.PendingTexts.{Passes, Waiting, stands_at}
use Rattle.dap_input.proofs.PendingTexts as pending
use Rattle.dap_input.proofs.Runs.{none_accepted}
use Rattle.dap_input.proofs.StreamEnds as ends
use Rattle.dap_input.proofs.WholeInputs.{Going as Judged}
use Rattle.dap_input.proofs.WholeInputs as inputs
use Rattle.dap_normalise.specs.Accepting.{Fits, text}
use Rattle.dap_normalise.specs.JudgingSteps.{payload_of}
use Rattle.dap_normalise.specs.Streaming.{Ends}
use Rattle.dap_mask.specs.Mask.{Mask}
use Rattle.dap_naming.specs.Known.{Knows, limit_of}
use Rattle.dap_naming.specs.declared.value_numbers.ValueNumbers.{ValueNumbers}
use Rattle.dap_rules.specs.Rewriting.{Gives, IsAccepted, Promises, rewriting, rewritten}
use Rattle.dap_rules.specs.Rewriting.{rewritten_text}
use Rattle.dap_rules.specs.RewritingSteps.{HasNumbered, IsTaken, Rewritten}
use Rattle.dap_rules.specs.declared.passes.Pass.{Pass}
use Rattle.dap_rules.proofs.RewritingFacts.{accepted_facts, fits_next, fits_none, gives}
use Rattle.dap_rules.proofs.RewritingFacts.{none_left, none_numbered, reads_records}

-- The records before the next one are accepted, and their text, of `written` bytes, was written or
-- is buffered. These are the numbers of their declared ids.
pub record Going {R W : Type 0} (kind : Pass) (limits : Limits) (mask : Mask) (source : Source R)
    (sink : Sink W) (start reader : R) (before writer : W) (records : Records RecordReading)
    (written : ℕ) (waiting : List ℕ) (numbers : ValueNumbers) : Type 0 where
  pub values : List Sent
  pub judged : Judged (rewriting kind limits mask) (RepresentsRecord limits.frame) source start
      reader records values
  pub fits : Fits limits (rewritten kind mask values)
  pub count : written ≡ length (rewritten_text kind mask values)
  pub waits : Waiting (rewriting kind limits mask) (Gives kind limits mask) sink before writer
      (HasItem (record_items limits.frame) records.pieces.unread) judged.bytes
      (rewritten_text kind mask values) waiting
  pub numbered : HasNumbered kind limits mask values numbers

-- No more was read than the next record requires.
abbrev here : {R : Type 0} (kind : Pass) (limits : Limits) (mask : Mask) {source : Source R}
    {start reader : R} {records : Records RecordReading} {values : List Sent}
    → Judged (rewriting kind limits mask) (RepresentsRecord limits.frame) source start reader
    records values
    → HasComeTo (rewriting kind limits mask) (Gives kind limits mask) source start reader None
    records.number (rewritten_text kind mask values)
here kind limits mask {values = values} judged =
    stands_at (Gives kind limits mask) judged (rewritten_text kind mask values)
    (gives limits mask kind judged.behind.front values judged.behind.accepted)

module _ {R W : Type 0} (kind : Pass) (limits : Limits) (mask : Mask) (source : Source R)
    (sink : Sink W) (start : R) (before : W) where
  none_text : rewritten_text kind mask [] ≡ []
  none_text = ap text (none_left limits mask kind)

  -- Nothing has been read or written.
  pub given_up : RanOutOfMemory (rewriting kind limits mask) (Gives kind limits mask)
      (Promises kind limits mask) source sink start start before before
  given_up =
      let accepted =
      none_accepted (rewriting kind limits mask) (accepted_facts limits mask kind) in
      ends.given_up (rewriting kind limits mask) (Gives kind limits mask)
      (Promises kind limits mask) source sink start before accepted
      (subst (Gives kind limits mask []) none_text (gives limits mask kind [] [] accepted))

  pub none_read : (records : Records RecordReading)
      → IsAtStart (RepresentsRecord limits.frame) limits.input records
      → (numbers : ValueNumbers) → Knows numbers [] → limit_of numbers ≡ limits.ids
      → Going kind limits mask source sink start start before before records 0 [] numbers
  none_read records is numbers knows limit =
      let judged = inputs.at_start (rewriting kind limits mask) (record_items limits.frame)
      payload_of (reads_records limits mask kind) (RepresentsRecord limits.frame) source start
      records is in
      record {
        values = [];
        judged = judged;
        fits = subst (Fits limits) (sym (none_left limits mask kind)) (fits_none limits mask);
        count = sym (ap length none_text);
        waits = pending.none_waiting (Promises kind limits mask) (here kind limits mask judged)
            (subst (AllWritten sink before before) (sym none_text)
            (ends.nothing_written sink before));
        numbered = none_numbered limits mask kind numbers knows limit;
      }

module _ {R W : Type 0} {kind : Pass} {limits : Limits} {mask : Mask}
    {source : Source R} {sink : Sink W} {start reader : R} {before writer : W}
    {records : Records RecordReading} {written : ℕ} {waiting : List ℕ} {known : ValueNumbers}
    (was : Going kind limits mask source sink start reader before writer records written waiting
    known)
    {new : Records RecordReading} {after : R} where
  module _ {outcome : Result (Option WholeRecord) Refused}
      (read : ReadsNextRecord limits.frame source
      records new reader after outcome) where
    -- No more was read than the next record requires.
    read_to : IsReadTo (rewriting kind limits mask) (was.judged.bytes ++ read.more) records.number
    read_to = steps.read_to (rewriting kind limits mask) (record_items limits.frame) payload_of
        (reads_records limits mask kind) (RepresentsRecord limits.frame) source was.judged.bytes
        records was.values was.judged.behind new reader after outcome read

    none_more : HasItem (record_items limits.frame) records.pieces.unread → read.more ≡ []
    none_more = steps.nothing_more (rewriting kind limits mask) (record_items limits.frame)
        payload_of
        (reads_records limits mask kind) records.pieces.unread read.more read.needed

  -- ---- no record was received

  module _ {because : Refused}
      (read : ReadsNextRecord limits.frame source
      records new reader after (Err because)) (end : W) (result : Result (Unit {0}) Refused)
      (ends_so : Ends sink waiting writer end (Err because) result) where
    pub not_read : Streams (rewriting kind limits mask) (Gives kind limits mask)
        (Promises kind limits mask)
        source sink start after before end result
    not_read =
        pending.refused (Promises kind limits mask) (here kind limits mask was.judged) was.waits
        read.came
        (read_to read) (none_more read) because
        (steps.refused_read (rewriting kind limits mask) (record_items limits.frame) payload_of
        (reads_records limits mask kind) (RepresentsRecord limits.frame) source was.judged.bytes
        records was.values was.judged.behind new reader after because read) end result ends_so

    pub not_read_gives_up : result ≡ Err Memory
        → HasGivenUpAt (rewriting kind limits mask) (Gives kind limits mask)
        (Promises kind limits mask) source
        sink new.number start after before end
    not_read_gives_up =
        pending.gives_up (Promises kind limits mask) (here kind limits mask was.judged) was.waits
        read.came
        (read_to read) (none_more read) because new.number few end result ends_so
      where
        few : because ≡ Memory → new.number ≤ records.number + 1
        few is =
            let same = (subst (λ b. Finds (record_items limits.frame)
            (RepresentsRecord limits.frame) (HasMarkedContent limits.frame) records new
            (records.pieces.unread ++ read.more) read.more read.stop (Err b)) is read.finds).2 in
            omega (arith, same)

  -- ---- all records were received

  pub all_rewritten : ((bytes : List ℕ) (messages : List Sent)
      → IsAccepted kind limits mask bytes messages
      → Promises kind limits mask bytes (rewritten_text kind mask messages))
      → ReadsNextRecord limits.frame source records new
      reader after (Ok None)
      → (end : W) (result : Result (Unit {0}) Refused)
      → Ends sink waiting writer end (Ok tt) result
      → Streams (rewriting kind limits mask) (Gives kind limits mask)
      (Promises kind limits mask) source sink
      start after before end result
  all_rewritten promised read =
      let all = inputs.accepts_all (rewriting kind limits mask)
      (record_items limits.frame) payload_of
      (reads_records limits mask kind) (RepresentsRecord limits.frame) source start reader records
      was.values was.judged new after read in
      pending.streamed (Promises kind limits mask) (here kind limits mask was.judged) was.waits
      read.came
      (read_to read) (none_more read) (record {
        whole = all.whole;
        came = whole_came source all.came all.within;
        gives = promised all.whole was.values all.accepted;
      })

  -- ---- a record was received

  module _ {whole : WholeRecord}
      (read : ReadsNextRecord limits.frame source
      records new reader after (Ok (Some whole))) where
    pub fewer : (new.pieces.limit - new.pieces.taken) + length new.pieces.unread
        < (records.pieces.limit - records.pieces.taken) + length records.pieces.unread
    fewer = inputs.fewer_left (rewriting kind limits mask) (record_items limits.frame) payload_of
        (reads_records limits mask kind) (RepresentsRecord limits.frame) source start reader records
        was.values was.judged new after whole read

    pub not_rewritten : (because : Refused) (longer : List ℕ) (numbers : ValueNumbers)
        → Rewritten kind limits mask was.values (payload_of whole) records.number waiting longer
        numbers (Err because) → (end : W) (result : Result (Unit {0}) Refused)
        → Ends sink waiting writer end (Err because) result
        → Streams (rewriting kind limits mask) (Gives kind limits mask)
        (Promises kind limits mask) source sink
        start after before end result
    not_rewritten because longer numbers is =
        pending.refused (Promises kind limits mask) (here kind limits mask was.judged) was.waits
        read.came
        (read_to read) (none_more read) because
        (steps.refused_held (rewriting kind limits mask) (record_items limits.frame) payload_of
        (reads_records limits mask kind) (RepresentsRecord limits.frame) source was.judged.bytes
        records was.values was.judged.behind new reader after whole read because is)

    pub not_rewritten_gives_up : (because : Refused) (end : W) (result : Result (Unit {0}) Refused)
        → Ends sink waiting writer end (Err because) result → result ≡ Err Memory
        → HasGivenUpAt (rewriting kind limits mask) (Gives kind limits mask)
        (Promises kind limits mask) source
        sink new.number start after before end
    not_rewritten_gives_up because =
        pending.gives_up (Promises kind limits mask) (here kind limits mask was.judged) was.waits
        read.came
        (read_to read) (none_more read) because new.number
        (λ is. let number = read.finds.1.number_is in omega (arith, number))

    -- The record was appended to the buffered output.
    module _ {next : ℕ} {longer : List ℕ} {numbers : ValueNumbers}
        (is : IsTaken kind limits mask was.values (payload_of whole) waiting longer numbers next)
      where
        abbrev judged_next : Judged (rewriting kind limits mask) (RepresentsRecord limits.frame)
            source start after new (was.values ++ is.message ∷ [])
        judged_next = inputs.on (rewriting kind limits mask) (record_items limits.frame) payload_of
            (reads_records limits mask kind) (RepresentsRecord limits.frame) source start reader
            records was.values was.judged new after whole read is.message is.is_next

        pub passed : Passes (rewriting kind limits mask) (Gives kind limits mask) sink before writer
            (HasItem (record_items limits.frame) new.pieces.unread)
            (HasFailedToWrite (rewriting kind limits mask) (Gives kind limits mask)
            (Promises kind limits mask)
            source sink start after before) judged_next.bytes
            (rewritten_text kind mask (was.values ++ is.message ∷ [])) longer
        passed =
            let to = here kind limits mask judged_next in
            pending.passed (Promises kind limits mask) (here kind limits mask was.judged) was.waits
            read.came
            (read_to read) (none_more read) is.longer read.finds.1.number_is is.text_is
            is.appended (to.before, to.gives)

        goes_on : (end : W) (left : List ℕ)
            → Waiting (rewriting kind limits mask) (Gives kind limits mask) sink before end
            (HasItem (record_items limits.frame) new.pieces.unread) judged_next.bytes
            (rewritten_text kind mask (was.values ++ is.message ∷ [])) left
            → Going kind limits mask source sink start after before end new next left numbers
        goes_on end left waits = record {
          values = was.values ++ is.message ∷ [];
          judged = judged_next;
          fits = fits_next limits mask kind was.values (payload_of whole) is.message is.is_next;
          count = is.count;
          waits = waits;
          numbered = is.numbered;
        }

        pub written_on : (end : W) → AllWritten sink writer end longer
            → Going kind limits mask source sink start after before end new next [] numbers
        written_on end all = goes_on end [] (passed.written end all)

        pub waited_on : HasItem (record_items limits.frame) new.pieces.unread
            → Going kind limits mask source sink start after before writer new next longer
            numbers
        waited_on has = goes_on writer longer (passed.waits has)
