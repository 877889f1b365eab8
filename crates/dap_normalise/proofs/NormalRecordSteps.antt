-- The possible results of reading the next record of an input.
use Rattle.std.proofs.Common.{◌≡◌, ℕ, ℤ, ◌+◌, ◌≤◌, List, [], ◌∷◌, ◌++◌, Option, Some, None, Result}
use Rattle.std.proofs.Common.{Ok, Err, true, refl, ◌∙◌, ap, subst, length, arith}
use Rattle.dap_device.specs.declared.device.Source.{Ghosts as Source}
use Rattle.dap_device.specs.Pieces.{HasReadSoFar}
use Rattle.dap_device.specs.declared.reading.Stop.TheVariants.{End}
use Rattle.dap_message.specs.Message.{Sent}
use Rattle.dap_recording.specs.declared.record.Record.{Record as WholeRecord}
use Rattle.dap_recording.specs.RecordReading.{RecordReading}
use Rattle.dap_recording.specs.declared.record_fault.RecordCause.TheVariants.{Cut}
use Rattle.dap_recording.proofs.Records.{readable}
use Rattle.dap_recording.specs.RecordReading.{HasMarkedContent}
use Rattle.dap_input.specs.InputSteps.{RefusalHolds}
use Rattle.dap_input.specs.ItemReading.{RepresentsRecord, record_items}
use Rattle.dap_input.specs.RecordSteps.{Finds, IsAtStart, ReadsNextRecord}
use Rattle.dap_input.specs.Refusals.{RejectsPayload}
use Rattle.dap_rename.specs.declared.mode.Mode.{Mode}
use Rattle.dap_input.specs.declared.limits.Limits.{Limits}
use Rattle.dap_input.specs.declared.records.Records.{Records}
use Rattle.dap_input.specs.declared.refused.Refused.{Refused}
use Rattle.dap_input.specs.declared.refused.Refused.TheVariants.{Memory, Record}
use Rattle.dap_input.proofs.InputLoop.{ReadsAs, StandsBehind}
use Rattle.dap_input.proofs.InputLoop as loop
use Rattle.dap_input.proofs.InputSteps as steps
use Rattle.dap_normalise.specs.declared.judging.Judge.{Judge}
use Rattle.dap_normalise.specs.declared.normal_records.NormalRecords.{NormalRecords}
use Rattle.dap_normalise.specs.Accepting.{Rejects, IsMessage, IsNext, accepting}
use Rattle.dap_normalise.specs.JudgingSteps.{IsTaken, JudgesRecord, RepresentsMessages}
use Rattle.dap_normalise.specs.JudgingSteps.{payload_of}
use Rattle.dap_normalise.specs.JudgingSteps.{judge_limits}
use Rattle.dap_normalise.specs.JudgingSteps.{judge_mode}
use Rattle.dap_normalise.specs.NormalSteps.{HasEnded, HasAdvanced, HasStoppedAt, IsBuffered}
use Rattle.dap_normalise.specs.NormalSteps.{RepresentsBefore, StoresNext}
use Rattle.dap_normalise.proofs.AcceptingFacts.{accepted_facts, message_once, value_laws}

-- A reader of records returns the records that are checked.
pub reads_records : (limits : Limits) (mode : Mode) → ReadsAs (accepting limits mode) (record_items
    limits.frame) payload_of
reads_records limits mode = record {
  records = readable limits.frame;
  judged = value_laws limits mode;
  accepted = accepted_facts limits mode;
  item_of = λ bytes whole is. is;
  fault_of = λ bytes cause ends. ends;
  open_of = λ bytes is_open. is_open;
}

-- The position in the input before the next record, and the messages that the state represents.
before_of : {T : Type 0} {numbers : T → List ℤ} {table_limit : T
    → ℕ} (limits : Limits) (mode : Mode) (bytes : List ℕ) (records : NormalRecords T)
    (messages normal : List Sent)
    → StandsBehind (accepting limits mode) (RepresentsRecord limits.frame) bytes records.records
    messages
    → RepresentsMessages numbers table_limit records.judge messages normal
    → judge_limits records.judge ≡ limits → judge_mode records.judge ≡ mode
    → RepresentsBefore numbers table_limit limits mode bytes records messages normal
before_of limits mode bytes records messages normal behind represents judge_limits_are
    judge_mode_is =
    record {
      front = behind.front;
      accepted = behind.accepted;
      came = behind.came;
      taken = behind.taken;
      limit_is = behind.limit_is;
      between = behind.between;
      number_is = behind.number_is;
      few = behind.few;
      read_to = behind.read_to;
      represents = represents;
      judge_limits_are = judge_limits_are;
      judge_mode_is = judge_mode_is;
    }

-- The position in the input before the next record.
abbrev pub behind_of : {T : Type 0} {numbers : T → List ℤ} {table_limit : T
    → ℕ} (limits : Limits) (mode : Mode) (bytes : List ℕ) (records : NormalRecords T)
    (messages normal : List Sent)
    → RepresentsBefore numbers table_limit limits mode bytes records messages normal
    → StandsBehind (accepting limits mode) (RepresentsRecord limits.frame) bytes records.records
    messages
behind_of limits mode bytes records messages normal was = record {
  front = was.front;
  accepted = was.accepted;
  came = was.came;
  taken = was.taken;
  limit_is = was.limit_is;
  between = was.between;
  number_is = was.number_is;
  few = was.few;
  read_to = was.read_to;
}

-- Nothing of the input has been read.
pub none_read : {T : Type 0} {numbers : T → List ℤ} {table_limit : T
    → ℕ} (limits : Limits) (mode : Mode) (new : NormalRecords T)
    → IsAtStart (RepresentsRecord limits.frame) limits.input new.records
    → RepresentsMessages numbers table_limit new.judge [] [] → judge_limits new.judge ≡ limits
    → judge_mode new.judge ≡ mode
    → RepresentsBefore numbers table_limit limits mode [] new [] []
none_read limits mode new start represents judge_limits_are judge_mode_is =
    before_of limits mode [] new [] []
    (loop.none_read (accepting limits mode) (RepresentsRecord limits.frame) new.records
    (accepted_facts limits mode) start)
    represents judge_limits_are judge_mode_is

module _ {T R : Type 0} {numbers : T → List ℤ} {table_limit : T → ℕ} (source : Source R)
    (limits : Limits) (mode : Mode) (bytes : List ℕ) (old : NormalRecords T) (messages normal : List
    Sent)
    (was : RepresentsBefore numbers table_limit limits mode bytes old messages normal)
    (new : Records RecordReading) (before after : R) where
  behind : StandsBehind (accepting limits mode) (RepresentsRecord limits.frame) bytes old.records
      messages
  behind = behind_of limits mode bytes old messages normal was

  abbrev Reads : Result (Option WholeRecord) Refused → Type 0
  Reads outcome = ReadsNextRecord limits.frame source
      old.records new before after outcome

  -- the buffer for reading is that of `left`
  stopped_for : (judge : Judge T) (left : NormalRecords T)
      (outcome : Result (Option WholeRecord) Refused)
      (read : Reads outcome) (because : Refused)
      → RefusalHolds (accepting limits mode) (bytes ++ read.more) read.stop old.records.number
      because
      × ((n : ℕ) → because ≡ Record n Cut → read.stop ≡ Some End)
      → (because ≡ Memory → new.number ≤ old.records.number + 1)
      → (because ≡ Memory → read.stop ≡ None)
      → HasStoppedAt numbers table_limit source limits mode bytes messages normal old record
      { records = new; judge = judge; scratch = left.scratch } before after because
  stopped_for judge left outcome read because reported last goes_on = record {
    more = read.more;
    stop = read.stop;
    came = read.came;
    within = steps.at_most (accepting limits mode) (record_items limits.frame) payload_of
        (reads_records limits mode) (RepresentsRecord limits.frame) source bytes old.records
        messages behind new before after outcome read;
    read_to = steps.read_to (accepting limits mode) (record_items limits.frame) payload_of
        (reads_records limits mode) (RepresentsRecord limits.frame) source bytes old.records
        messages behind new before after outcome read;
    says = reported.0;
    cut = reported.1;
    last = last;
    goes_on = goes_on;
  }

  -- if the record is buffered, nothing is read
  pub nothing_given : (outcome : Result (Option WholeRecord) Refused) → Reads outcome
      → IsBuffered limits old → source.given after ≡ source.given before
  nothing_given outcome read has =
      let none = steps.nothing_more (accepting limits mode) (record_items limits.frame) payload_of
      (reads_records limits mode) old.records.pieces.unread read.more read.needed has in
      let counted = read.came.counted in
      omega (arith, counted, ap length none)

  -- ---- no record was read

  pub refused_read : (because : Refused) → Reads (Err because)
      → HasStoppedAt numbers table_limit source limits mode bytes messages normal old record
      { records = new; judge = old.judge; scratch = old.scratch } before after because
  refused_read because read =
      stopped_for old.judge old (Err because) read because
      (steps.refused_read (accepting limits mode) (record_items limits.frame) payload_of
      (reads_records limits mode) (RepresentsRecord limits.frame) source bytes old.records
      messages behind new before after because read)
      (λ is. let same = (subst (λ b. Finds (record_items limits.frame)
      (RepresentsRecord limits.frame) (HasMarkedContent limits.frame) old.records new
      (old.records.pieces.unread ++ read.more) read.more read.stop (Err b)) is read.finds).2 in omega (arith, same))
      (λ is. (subst (λ b. Finds (record_items limits.frame)
      (RepresentsRecord limits.frame) (HasMarkedContent limits.frame) old.records new
      (old.records.pieces.unread ++ read.more) read.more read.stop (Err b)) is read.finds).0)

  pub none_left : (text : List ℕ) → Reads (Ok None)
      → HasEnded numbers table_limit source limits mode bytes messages normal old record
      { records = new; judge = old.judge; scratch = old.scratch } before after text text
  none_left text read =
      let end = steps.none_left (accepting limits mode) (record_items limits.frame) payload_of
      (reads_records limits mode) (RepresentsRecord limits.frame) source bytes old.records
      messages behind new before after read in
      record {
        more = read.more;
        came = subst (HasReadSoFar source before after read.more) end.0 read.came;
        accepted = end.1;
        read_to = steps.read_to (accepting limits mode) (record_items limits.frame) payload_of
            (reads_records limits mode) (RepresentsRecord limits.frame) source bytes
            old.records messages behind new before after (Ok None) read;
        judge_is = refl;
        number_is = end.2;
        kept = refl;
      }

  -- ---- a record was read

  module _ (whole : WholeRecord) (read : Reads (Ok (Some whole))) (judge : Judge T)
      (left : NormalRecords T) (text longer : List ℕ) where
    abbrev Judged : Result (Unit {0}) Refused → Type 0
    Judged outcome = (ms ns : List Sent) → RepresentsMessages numbers table_limit old.judge ms ns
        → JudgesRecord numbers table_limit ms ns (payload_of whole) old.records.number old.judge
        judge
        text longer outcome

    pub refused_judge : (because : Refused) → Judged (Err because)
        → HasStoppedAt numbers table_limit source limits mode bytes messages normal old
        record { records = new; judge = judge; scratch = left.scratch } before after because
    refused_judge because judged =
        stopped_for judge left (Ok (Some whole)) read because
        (steps.refused_held (accepting limits mode) (record_items limits.frame) payload_of
        (reads_records limits mode) (RepresentsRecord limits.frame) source bytes old.records
        messages behind new before after whole read because
        (subst (λ l. RejectsPayload (Rejects l mode messages (payload_of whole)) old.records.number
        because)
        was.judge_limits_are
        (subst (λ k. RejectsPayload (Rejects (judge_limits old.judge) k messages (payload_of whole))
        old.records.number because) was.judge_mode_is (judged messages normal was.represents))))
        (λ is. let number = read.finds.1.number_is in omega (arith, number))
        (λ is. read.finds.0)

    -- the record is accepted
    pub gone_on : judge_limits judge ≡ judge_limits old.judge
        → judge_mode judge ≡ judge_mode old.judge
        → IsTaken numbers table_limit messages normal (payload_of whole) judge text longer
        → HasAdvanced numbers table_limit source limits mode bytes messages normal old record
        { records = new; judge = judge; scratch = left.scratch } before after text longer
    gone_on same_limits same_mode added =
        let limits_are = same_limits ∙ was.judge_limits_are in
        let mode_is = same_mode ∙ was.judge_mode_is in
        let is_next =
        subst (λ l. IsNext l mode messages (payload_of whole) added.message) limits_are
        (subst (λ k. IsNext (judge_limits judge) k messages (payload_of whole) added.message)
        mode_is
        added.is_next) in
        let next = steps.gone_on (accepting limits mode) (record_items limits.frame) payload_of
        (reads_records limits mode) (RepresentsRecord limits.frame) source bytes old.records
        messages behind new before after whole read added.message is_next in
        record {
          more = read.more;
          came = subst (HasReadSoFar source before after read.more) read.finds.0
              read.came;
          message = added.message;
          named = added.named;
          represents = before_of limits mode (bytes ++ read.more) record {
            records = new;
            judge = judge;
            scratch = left.scratch;
          }
              (messages ++ added.message ∷ []) (normal ++ added.named ∷ []) next added.represents
              limits_are mode_is;
          read_to = steps.read_to (accepting limits mode) (record_items limits.frame) payload_of
              (reads_records limits mode) (RepresentsRecord limits.frame) source bytes
              old.records messages behind new before after (Ok (Some whole)) read;
          shorter = steps.shorter (accepting limits mode) (record_items limits.frame) payload_of
              (reads_records limits mode) (RepresentsRecord limits.frame) source bytes
              old.records messages behind new before after whole read;
          appended = added.appended;
        }

  -- The record is accepted, and its message is appended to those of a session.
  pub stored_on : (whole : WholeRecord) (read : Reads (Ok (Some whole))) (judge : Judge T)
      (left : NormalRecords T) (longer : List ℕ) → judge_limits judge ≡ judge_limits old.judge
      → judge_mode judge ≡ judge_mode old.judge
      → IsTaken numbers table_limit messages normal (payload_of whole) judge [] longer
      → (message : Sent) → IsMessage (payload_of whole) message
      → (stored more : List Sent) → more ≡ stored ++ message ∷ []
      → StoresNext numbers table_limit source limits mode bytes messages normal old record
      { records = new; judge = judge; scratch = left.scratch } before after stored more (Ok true)
  unfolding gone_on
  stored_on whole read judge left longer same_limits same_mode added message is stored more
      appended = (
        longer,
        gone_on whole read judge left [] longer same_limits same_mode added,
        appended ∙ ap (λ m. stored ++ m ∷ [])
            (message_once (payload_of whole) message added.message is added.is_next.is_message),
      )
