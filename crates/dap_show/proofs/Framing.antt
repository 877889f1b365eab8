-- Recordings of which only the framing is checked, and the search for one of their records.
use Rattle.std.proofs.Common.{◌≡◌, ◌≢◌, ◌⊎◌, inl, inr, ℕ, zero, suc, ◌+◌, ◌-◌, ◌<◌, ◌≤◌, ◌^◌, List}
use Rattle.std.proofs.Common.{[], ◌∷◌, ◌++◌, length, Option, Some, None, Result, Ok, Err, refl, sym}
use Rattle.std.proofs.Common.{◌∙◌, ap, subst, arith, append_assoc, length-append}
use Rattle.dap_device.specs.Pieces.{HasReadSoFar}
use Rattle.dap_device.specs.declared.device.Source.{Ghosts as Source}
use Rattle.dap_frame.specs.Grammar.{IsItem}
use Rattle.dap_recording.proofs.Records.{readable}
use Rattle.dap_recording.specs.Recording.{IsRecording, records as recorded}
use Rattle.dap_recording.specs.RecordReading.{RecordReading}
use Rattle.dap_recording.specs.declared.record.Record.{Record as WholeRecord}
use Rattle.dap_input.proofs.Coming.{came_on}
use Rattle.dap_input.proofs.InputLoop.{ReadsAs}
use Rattle.dap_input.proofs.InputSteps as steps
use Rattle.dap_input.proofs.Runs.{AcceptedFacts, Run, ValueLaws, run_within}
use Rattle.dap_input.proofs.WholeInputs.{Going, accepts_all, at_start, few_failures, fewer_left}
use Rattle.dap_input.proofs.WholeInputs.{on, small_count, small_number}
use Rattle.dap_input.specs.ItemReading.{RepresentsRecord, record_items}
use Rattle.dap_input.specs.ReadTo.{IsReadTo}
use Rattle.dap_input.specs.RecordSteps.{IsAtStart, IsWithin, ReadsNextRecord}
use Rattle.dap_input.specs.declared.limits.Limits.{Limits}
use Rattle.dap_input.specs.declared.records.Records.{Records}
use Rattle.dap_input.specs.declared.refused.Refused.{Refused}
use Rattle.dap_normalise.specs.Accepting.{Payload}
use Rattle.dap_show.specs.OneRecord.{HasNoRecord, HasRecord, IsSought, StopsBefore, framing}
use Rattle.dap_normalise.specs.JudgingSteps.{payload_of}
use Rattle.dap_show.proofs.Stopping.{stops_read}

module _ (limits : Limits) where
  value_laws : ValueLaws (framing limits)
  value_laws = record {
    one_value = λ before held v w one two. one ∙ sym two;
    one_objection = λ before held why because one two. absurd one;
    next_not_objected = λ before held v why next objects. objects;
  }

  run_of : (before values : List Payload) (used : ℕ) (bytes : List ℕ)
      → IsRecording limits.frame bytes values → used + length bytes ≤ limits.input
      → Run (framing limits) before used bytes values
  unfolding Run
  run_of before [] used bytes recording short = recording
  run_of before (v ∷ values) used bytes (front, more, is_record, split, recording) short = (
    front,
    more,
    split,
    record {
      held = v;
      is_record = is_record;
      is_next = refl;
      in_time = omega (arith, ap length split, length-append front more);
    },
    run_of (before ++ v ∷ []) values (used + length front) more recording
        (omega (arith, ap length split, length-append front more)),
  )

  recording_of : (before values : List Payload) (used : ℕ) (bytes : List ℕ)
      → Run (framing limits) before used bytes values → IsRecording limits.frame bytes values
  unfolding Run
  recording_of before [] used bytes run = run
  recording_of before (v ∷ values) used bytes (front, more, split, passes, run) = (
    front,
    more,
    subst (IsItem (recorded limits.frame) front) (sym passes.is_next) passes.is_record,
    split,
    recording_of (before ++ v ∷ []) values (used + length front) more run,
  )

  accepted_facts : AcceptedFacts (framing limits)
  accepted_facts = record {
    run_of_accepted = λ bytes values accepted. run_of [] values 0 bytes accepted.recording
        (let short = accepted.short in omega arith);
    accepted_of_run = λ bytes values run.
        record {
          short = run_within (framing limits) bytes values run;
          recording = recording_of [] values 0 bytes run;
        };
  }

  pub reads_framed : ReadsAs (framing limits) (record_items limits.frame) payload_of
  reads_framed = record {
    records = readable limits.frame;
    judged = value_laws;
    accepted = accepted_facts;
    item_of = λ bytes whole is. is;
    fault_of = λ bytes cause ends. ends;
    open_of = λ bytes is_open. is_open;
  }

-- The records before the next one are framed, and the requested record is not among them.
pub record Sought {R : Type 0} (limits : Limits) (source : Source R) (number : ℕ)
    (start reader : R) (records : Records RecordReading) : Type 0 where
  pub values : List Payload
  pub going : Going (framing limits) (RepresentsRecord limits.frame) source start reader records
      values
  pub sought : IsSought number records.number

-- No record comes before the first.
pub sought_first : (number at : ℕ) → at ≡ 1 → IsSought number at
sought_first zero at is = inl refl
sought_first (suc number) at is = inr (omega arith)

sought_next : (number at next : ℕ) → IsSought number at → at ≢ number → next ≡ at + 1
    → IsSought number next
sought_next number at next (inl none) other is = inl none
sought_next number at next (inr early) other is = inr (omega (arith, early, other, is))

not_there : (number at count : ℕ) → IsSought number at → at ≡ count + 1
    → (number ≡ 0) ⊎ (count < number)
not_there number at count (inl none) is = inl none
not_there number at count (inr early) is = inr (omega (arith, early, is))

module _ {R : Type 0} (limits : Limits) (source : Source R) (number : ℕ) where
  pub none_sought : (reader : R) (records : Records RecordReading)
      → IsAtStart (RepresentsRecord limits.frame) limits.input records
      → Sought limits source number reader reader records
  none_sought reader records start = record {
    values = [];
    going = at_start (framing limits) (record_items limits.frame) payload_of (reads_framed limits)
        (RepresentsRecord limits.frame) source reader records start;
    sought = sought_first number records.number start.number;
  }

  module _ (start reader : R) (records : Records RecordReading)
      (was : Sought limits source number start reader records) where
    pub few_records : limits.input ≤ 2 ^ 62 → records.number < 2 ^ 63
    few_records =
        small_number (framing limits) (record_items limits.frame) payload_of (reads_framed limits)
        (RepresentsRecord limits.frame) source start reader records was.values was.going

    pub few_given : limits.input ≤ 2 ^ 62 → source.given start < 2 ^ 62
        → source.given reader + (records.pieces.limit - records.pieces.taken) < 2 ^ 63
    few_given =
        small_count (framing limits) (record_items limits.frame) payload_of (reads_framed limits)
        (RepresentsRecord limits.frame) source start reader records was.values was.going

    pub few_failed : source.failures start < 2 ^ 62 → source.failures reader < 2 ^ 63
    few_failed =
        few_failures (framing limits) (record_items limits.frame) payload_of (reads_framed limits)
        (RepresentsRecord limits.frame) source start reader records was.values was.going

    pub some_number : 1 ≤ records.number
    some_number = let is = was.going.behind.number_is in omega (arith, is)

    module _ (new : Records RecordReading) (after : R) where
      abbrev Reads : Result (Option WholeRecord) Refused → Type 0
      Reads outcome = ReadsNextRecord limits.frame source
          records new reader after outcome

      pub not_framed : (refused : Refused) → Reads (Err refused)
          → StopsBefore limits source start after number refused
      not_framed refused read = record {
        stops = stops_read (framing limits) (record_items limits.frame) payload_of
            (reads_framed limits) (RepresentsRecord limits.frame) source start reader records
            was.values was.going new after refused read;
        early = was.sought;
      }

      pub missing : (count : ℕ) → count ≡ records.number - 1 → Reads (Ok None)
          → HasNoRecord limits source start after number count
      missing count is read =
          let number_is = was.going.behind.number_is in
          let count_is : count ≡ length was.values = omega (arith, is, number_is) in
          record {
            values = was.values;
            all = accepts_all (framing limits) (record_items limits.frame) payload_of
                (reads_framed limits) (RepresentsRecord limits.frame) source start reader records
                was.values was.going new after read;
            count_is = count_is;
            missing = not_there number records.number count was.sought
                (omega (arith, is, number_is));
          }

      pub found : (whole : WholeRecord) → records.number ≡ number → Reads (Ok (Some whole))
          → HasRecord limits source start after number whole.content
      found whole here read =
          let bytes = was.going.bytes ++ read.more in
          let behind = was.going.behind in
          record {
            bytes = bytes;
            came = subst (HasReadSoFar source start after bytes) read.finds.0
                (came_on source start reader after was.going.bytes read.more read.stop
                was.going.came read.came);
            short = subst (IsWithin (length bytes) limits.input) read.finds.0
                (steps.within (framing limits) (record_items limits.frame) payload_of
                (reads_framed limits) (RepresentsRecord limits.frame) source was.going.bytes records
                was.values behind new reader after (Ok (Some whole)) read);
            read_to = subst (IsReadTo (framing limits) bytes) here
                (steps.read_to (framing limits) (record_items limits.frame) payload_of
                (reads_framed limits) (RepresentsRecord limits.frame) source was.going.bytes records
                was.values behind new reader after (Ok (Some whole)) read);
            before = record {
              values = was.values;
              front = behind.front;
              rest = records.pieces.unread ++ read.more;
              split = ap (λ t. t ++ read.more) behind.came
                  ∙ append_assoc behind.front records.pieces.unread read.more;
              accepted = behind.accepted;
              is_number = sym here ∙ behind.number_is;
            };
            record_bytes = read.finds.1.front;
            more = new.pieces.unread;
            split = read.finds.1.split;
            side = whole.side;
            is_record = read.finds.1.is_record;
          }

      pub go_on : (whole : WholeRecord) → records.number ≢ number → Reads (Ok (Some whole))
          → Sought limits source number start after new
      go_on whole other read = record {
        values = was.values ++ payload_of whole ∷ [];
        going = on (framing limits) (record_items limits.frame) payload_of (reads_framed limits)
            (RepresentsRecord limits.frame) source start reader records was.values was.going new
            after whole read (payload_of whole) refl;
        sought = sought_next number records.number new.number was.sought other
            read.finds.1.number_is;
      }

      pub fewer : (whole : WholeRecord) → Reads (Ok (Some whole))
          → (new.pieces.limit - new.pieces.taken) + length new.pieces.unread
          < (records.pieces.limit - records.pieces.taken) + length records.pieces.unread
      fewer =
          fewer_left (framing limits) (record_items limits.frame) payload_of (reads_framed limits)
          (RepresentsRecord limits.frame) source start reader records was.values was.going new after
