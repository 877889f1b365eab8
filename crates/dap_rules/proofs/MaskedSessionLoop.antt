-- The invariant of the loop that masks a recording in memory, and its possible results.
use Rattle.std.proofs.Common.{◌≡◌, ℕ, ◌+◌, ◌-◌, ◌<◌, ◌≤◌, ◌^◌, List, [], ◌∷◌, ◌++◌, length, Option}
use Rattle.std.proofs.Common.{Some, None, Result, Ok, Err, refl, sym, subst, arith}
use Rattle.dap_device.specs.Memory.{GivenBytes}
use Rattle.dap_message.specs.Message.{Sent}
use Rattle.dap_recording.proofs.Records.{readable}
use Rattle.dap_recording.specs.RecordReading.{RecordReading}
use Rattle.dap_recording.specs.declared.record.Record.{Record as WholeRecord}
use Rattle.dap_mask.specs.Mask.{Mask}
use Rattle.dap_naming.specs.Known.{Knows, limit_of}
use Rattle.dap_input.specs.InputSteps.{RefusesOne}
use Rattle.dap_input.specs.ItemReading.{RepresentsRecord, record_items}
use Rattle.dap_input.specs.Limits.{AreSound}
use Rattle.dap_input.specs.RecordSteps.{IsAtStart, ReadsNextRecord}
use Rattle.dap_input.specs.declared.limits.Limits.{Limits}
use Rattle.dap_input.specs.declared.records.Records.{Records}
use Rattle.dap_input.specs.declared.refused.Refused.{Refused}
use Rattle.dap_input.specs.declared.refused.Refused.TheVariants.{Memory}
use Rattle.dap_input.proofs.Coming.{whole_came}
use Rattle.dap_input.proofs.MemoryInputs.{all_came, all_of, came_of, memory, reported, start}
use Rattle.dap_input.proofs.Refusals.{refused_in}
use Rattle.dap_input.proofs.WholeInputs.{Going as Judged}
use Rattle.dap_input.proofs.WholeInputs as inputs
use Rattle.dap_normalise.specs.JudgingSteps.{payload_of}
use Rattle.dap_rules.specs.Applying.{RefusesToMask}
use Rattle.dap_rules.specs.Masking.{IsAccepted, masking}
use Rattle.dap_rules.specs.MaskedSessions.{IsMaskedSession, IsPushed, Pushes, RepresentsMasked}
use Rattle.dap_rules.specs.declared.masked_session.MaskedSession.{MaskedSession}
use Rattle.dap_rules.proofs.FewValues.{none_few}
use Rattle.dap_rules.proofs.MaskingFacts.{accepted_facts, fits_none, reads_records, value_laws}
use Rattle.dap_stored.specs.Sessions.{messages_of}

-- The records before the next one are accepted, and their masked messages are in the session.
pub record Going (limits : Limits) (mask : Mask) (bytes : List ℕ) (reader : GivenBytes)
    (records : Records RecordReading) (written : ℕ) (session : MaskedSession) : Type 0 where
  pub values : List Sent
  pub judged : Judged (masking limits mask) (RepresentsRecord limits.frame) memory (start bytes)
      reader records values
  pub represents : RepresentsMasked limits mask values written session

-- The masked text is within the limit.
pub within : {limits : Limits} {mask : Mask} {bytes : List ℕ} {reader : GivenBytes}
    {records : Records RecordReading} {written : ℕ} {session : MaskedSession}
    → Going limits mask bytes reader records written session → written ≤ limits.input
within was =
    let represents = was.represents in
    let fits = represents.fits in
    let count = represents.count in
    let whole = fits.whole in
    omega (arith, count, whole)

module _ (limits : Limits) (sound : AreSound limits) (mask : Mask) (bytes : List ℕ) where
  refused_bytes : (after : GivenBytes) (records : Records RecordReading) (because : Refused)
      → RefusesOne (masking limits mask) memory (start bytes) after records because
      → RefusesToMask limits mask bytes because
  refused_bytes after records Memory one = tt
  refused_bytes after records because one =
      let here =
      refused_in (masking limits mask) (readable limits.frame) (value_laws limits mask)
      (accepted_facts limits mask) one.bytes one.number because (all_of bytes) one.stop
      (came_of (start bytes) after one.bytes one.stop one.came) one.says one.cut in
      reported (masking limits mask) bytes because one.number here.fault here.tells
      here.is_refused

  -- Nothing has been read.
  pub none_read : (reader : GivenBytes) (records : Records RecordReading) (session : MaskedSession)
      → reader ≡ start bytes → IsAtStart (RepresentsRecord limits.frame) limits.input records
      → messages_of session.messages ≡ [] → session.ruled.items ≡ [] → session.fault ≡ None
      → Knows session.numbers [] → limit_of session.numbers ≡ limits.ids
      → session.named_bytes ≡ 0 → Going limits mask bytes reader records 0 session
  none_read reader records session first at none unset whole knows limit empty = record {
    values = [];
    judged = subst (λ (r : GivenBytes). Judged (masking limits mask) (RepresentsRecord limits.frame)
        memory (start bytes) r records []) (sym first)
        (inputs.at_start (masking limits mask) (record_items limits.frame) payload_of
        (reads_records limits mask) (RepresentsRecord limits.frame) memory (start bytes) records
        at);
    represents = record {
      fits = fits_none limits mask;
      count = refl;
      numbered = record { knows = knows; few = none_few limits.ids; limit = limit };
      named_fits = fits_none limits mask;
      named_count = omega arith;
      named_within = omega (arith, empty);
      holds = rw (whole, none) tt;
      ruled = rw (none, unset) tt;
    };
  }

  module _ (reader : GivenBytes) (records : Records RecordReading) (written : ℕ)
      (session : MaskedSession) (was : Going limits mask bytes reader records written session) where
    pub few_records : records.number < 2 ^ 63
    few_records =
        inputs.small_number (masking limits mask) (record_items limits.frame) payload_of
        (reads_records limits mask) (RepresentsRecord limits.frame) memory (start bytes) reader
        records was.values was.judged sound.input

    pub few_given : reader.given + (records.pieces.limit - records.pieces.taken) < 2 ^ 63
    few_given =
        inputs.small_count (masking limits mask) (record_items limits.frame) payload_of
        (reads_records limits mask) (RepresentsRecord limits.frame) memory (start bytes) reader
        records was.values was.judged sound.input (omega arith)

    module _ (new : Records RecordReading) (after : GivenBytes) where
      abbrev Reads : Result (Option WholeRecord) Refused → Type 0
      Reads outcome = ReadsNextRecord limits.frame memory records new reader after outcome

      pub not_read : (because : Refused) → Reads (Err because)
          → RefusesToMask limits mask bytes because
      not_read because read =
          refused_bytes after new because
          (inputs.refuses_read (masking limits mask) (record_items limits.frame) payload_of
          (reads_records limits mask) (RepresentsRecord limits.frame) memory (start bytes) reader
          records was.values was.judged new after because read)

      pub all_masked : Reads (Ok None) → IsMaskedSession limits mask bytes session
      all_masked read =
          let all =
          inputs.accepts_all (masking limits mask) (record_items limits.frame) payload_of
          (reads_records limits mask) (RepresentsRecord limits.frame) memory (start bytes) reader
          records was.values was.judged new after read in
          let represents = was.represents in
          let numbered = represents.numbered in
          record {
            messages = was.values;
            accepted = subst (λ (t : List ℕ). IsAccepted limits mask t was.values)
                (all_came (start bytes) after limits.input all.whole
                (whole_came memory all.came all.within)) all.accepted;
            few = numbered.few;
            fits = represents.named_fits;
            holds = represents.holds;
            ruled = represents.ruled;
          }

      module _ (whole : WholeRecord) (read : Reads (Ok (Some whole))) where
        pub not_pushed : (because : Refused) (longer : MaskedSession)
            → Pushes limits mask was.values (payload_of whole) records.number longer (Err because)
            → RefusesToMask limits mask bytes because
        not_pushed because longer rejects =
            refused_bytes after new because
            (inputs.refuses_held (masking limits mask) (record_items limits.frame) payload_of
            (reads_records limits mask) (RepresentsRecord limits.frame) memory (start bytes)
            reader records was.values was.judged new after whole read because rejects)

        pub pushed_on : (longer : MaskedSession) (next : ℕ)
            → IsPushed limits mask was.values (payload_of whole) next longer
            → Going limits mask bytes after new next longer
        pushed_on longer next is = record {
          values = was.values ++ is.message ∷ [];
          judged = inputs.on (masking limits mask) (record_items limits.frame) payload_of
              (reads_records limits mask) (RepresentsRecord limits.frame) memory (start bytes)
              reader records was.values was.judged new after whole read is.message is.is_next;
          represents = is.represents;
        }

        pub fewer : (new.pieces.limit - new.pieces.taken) + length new.pieces.unread
            < (records.pieces.limit - records.pieces.taken) + length records.pieces.unread
        fewer =
            inputs.fewer_left (masking limits mask) (record_items limits.frame) payload_of
            (reads_records limits mask) (RepresentsRecord limits.frame) memory (start bytes)
            reader records was.values was.judged new after whole read
