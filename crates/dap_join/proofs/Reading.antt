-- The invariant of the loop that reads the records of a recording, and its possible results.
use Rattle.std.proofs.Common.{◌≡◌, ℕ, ◌+◌, ◌-◌, ◌<◌, ◌^◌, List, [], ◌∷◌, ◌++◌, length, Option}
use Rattle.std.proofs.Common.{Some, None, Result, Ok, Err, refl, sym, subst, arith}
use Rattle.dap_device.specs.Memory.{GivenBytes}
use Rattle.dap_recording.proofs.Records.{readable}
use Rattle.dap_recording.specs.RecordReading.{RecordReading}
use Rattle.dap_recording.specs.declared.record.Record.{Record as WholeRecord}
use Rattle.dap_input.specs.InputSteps.{RefusesOne}
use Rattle.dap_input.specs.ItemReading.{RepresentsRecord, record_items}
use Rattle.dap_input.specs.Limits.{AreSound}
use Rattle.dap_input.specs.RecordSteps.{IsAtStart, ReadsNextRecord}
use Rattle.dap_input.specs.declared.limits.Limits.{Limits}
use Rattle.dap_input.specs.declared.records.Records.{Records}
use Rattle.dap_input.specs.declared.refused.Refused.{Refused}
use Rattle.dap_input.specs.declared.refused.Refused.TheVariants.{Grew, Memory}
use Rattle.dap_input.proofs.Coming.{whole_came}
use Rattle.dap_input.proofs.MemoryInputs.{all_came, all_of, came_of, memory, reported, start}
use Rattle.dap_input.proofs.Refusals.{refused_in}
use Rattle.dap_input.proofs.WholeInputs.{Going as Judged}
use Rattle.dap_input.proofs.WholeInputs as inputs
use Rattle.dap_normalise.specs.Accepting.{Payload}
use Rattle.dap_normalise.specs.JudgingSteps.{payload_of}
use Rattle.dap_join.specs.Outputs.{AreItems, Item}
use Rattle.dap_join.specs.Joining.{HasGrown, IsWhole, Joins, RefusesToJoin, splitting}
use Rattle.dap_join.specs.Joined.{joined}
use Rattle.dap_join.specs.JoiningSteps.{AddsRecord, AreWritten, Ends, HasRead, RefusesToSplit}
use Rattle.dap_join.specs.JoiningSteps.{Represents, StartsEmpty}
use Rattle.dap_join.specs.declared.joiner.Joiner.{Joiner}
use Rattle.dap_mask.specs.declared.joining.Joining.{Joining}
use Rattle.dap_join.proofs.JoiningFacts.{all_written, items_on, represents_none}
use Rattle.dap_join.proofs.SplittingFacts.{accepted_facts, reads_records, value_laws}

-- The records before the next one are read, and the joiner represents their items.
pub record Going (limits : Limits) (joining : Joining) (bytes : List ℕ) (reader : GivenBytes)
    (records : Records RecordReading) (joiner : Joiner) : Type 0 where
  pub values : List Payload
  pub judged : Judged (splitting limits) (RepresentsRecord limits.frame) memory (start bytes)
      reader records values
  pub items : List Item
  pub are_items : AreItems 1 values items
  pub represents : Represents limits joining joiner items

module _ (limits : Limits) (sound : AreSound limits) (joining : Joining) (bytes : List ℕ) where
  refused_bytes : (after : GivenBytes) (records : Records RecordReading) (because : Refused)
      → RefusesOne (splitting limits) memory (start bytes) after records because
      → RefusesToSplit limits bytes because
  refused_bytes after records Memory one = tt
  refused_bytes after records because one =
      let here =
      refused_in (splitting limits) (readable limits.frame) (value_laws limits)
      (accepted_facts limits) one.bytes one.number because (all_of bytes) one.stop
      (came_of (start bytes) after one.bytes one.stop one.came) one.says one.cut in
      reported (splitting limits) bytes because one.number here.fault here.tells
      here.is_refused

  -- Nothing has been read.
  pub none_read : (reader : GivenBytes) (records : Records RecordReading) (joiner : Joiner)
      → reader ≡ start bytes → IsAtStart (RepresentsRecord limits.frame) limits.input records
      → StartsEmpty joiner → Going limits joining bytes reader records joiner
  none_read reader records joiner first at empty = record {
    values = [];
    judged = subst (λ (r : GivenBytes). Judged (splitting limits) (RepresentsRecord limits.frame)
        memory (start bytes) r records []) (sym first)
        (inputs.at_start (splitting limits) (record_items limits.frame) payload_of
        (reads_records limits) (RepresentsRecord limits.frame) memory (start bytes) records at);
    items = [];
    are_items = tt;
    represents = represents_none limits joining joiner empty;
  }

  module _ (reader : GivenBytes) (records : Records RecordReading) (joiner : Joiner)
      (was : Going limits joining bytes reader records joiner) where
    pub few_records : records.number < 2 ^ 63
    few_records =
        inputs.small_number (splitting limits) (record_items limits.frame) payload_of
        (reads_records limits) (RepresentsRecord limits.frame) memory (start bytes) reader
        records was.values was.judged sound.input

    pub few_given : reader.given + (records.pieces.limit - records.pieces.taken) < 2 ^ 63
    few_given =
        inputs.small_count (splitting limits) (record_items limits.frame) payload_of
        (reads_records limits) (RepresentsRecord limits.frame) memory (start bytes) reader
        records was.values was.judged sound.input (omega arith)

    module _ (new : Records RecordReading) (after : GivenBytes) where
      abbrev Reads : Result (Option WholeRecord) Refused → Type 0
      Reads outcome = ReadsNextRecord limits.frame memory records new reader after outcome

      pub not_read : (because : Refused) → Reads (Err because)
          → RefusesToSplit limits bytes because
      not_read because read =
          refused_bytes after new because
          (inputs.refuses_read (splitting limits) (record_items limits.frame) payload_of
          (reads_records limits) (RepresentsRecord limits.frame) memory (start bytes) reader
          records was.values was.judged new after because read)

      pub all_read : Reads (Ok None) → HasRead limits joining bytes joiner
      all_read read =
          let all =
          inputs.accepts_all (splitting limits) (record_items limits.frame) payload_of
          (reads_records limits) (RepresentsRecord limits.frame) memory (start bytes) reader
          records was.values was.judged new after read in
          let whole : IsWhole limits bytes was.values =
          subst (λ (t : List ℕ). IsWhole limits t was.values)
          (all_came (start bytes) after limits.input all.whole
          (whole_came memory all.came all.within)) all.accepted in
          record {
            items = was.items;
            split = record {
              short = whole.short;
              records = was.values;
              recording = whole.recording;
              are_items = was.are_items;
            };
            represents = was.represents;
          }

      module _ (whole : WholeRecord) (read : Reads (Ok (Some whole))) where
        pub added : (longer : Joiner)
            → AddsRecord limits joining joiner longer records.number (payload_of whole)
            → Going limits joining bytes after new longer
        added longer is =
            let item : Item = record {
              number = records.number;
              held = payload_of whole;
              part = is.part;
            } in
            record {
              values = was.values ++ payload_of whole ∷ [];
              judged = inputs.on (splitting limits) (record_items limits.frame) payload_of
                  (reads_records limits) (RepresentsRecord limits.frame) memory (start bytes)
                  reader records was.values was.judged new after whole read (payload_of whole)
                  refl;
              items = was.items ++ item ∷ [];
              are_items = items_on 1 was.values was.items item was.are_items
                  (let judged = was.judged in
                  let behind = judged.behind in
                  let number = behind.number_is in
                  omega (arith, number)) is.is_part;
              represents = is.adds was.items was.represents;
            }

        pub fewer : (new.pieces.limit - new.pieces.taken) + length new.pieces.unread
            < (records.pieces.limit - records.pieces.taken) + length records.pieces.unread
        fewer =
            inputs.fewer_left (splitting limits) (record_items limits.frame) payload_of
            (reads_records limits) (RepresentsRecord limits.frame) memory (start bytes)
            reader records was.values was.judged new after whole read

-- A recording that is not split is not joined.
pub not_joined : (limits : Limits) (joining : Joining) (bytes : List ℕ) (because : Refused)
    → RefusesToSplit limits bytes because → RefusesToJoin limits joining bytes because
not_joined limits joining bytes Memory refuses = tt
not_joined limits joining bytes (Grew n) refuses =
    let first = refuses.refuses in absurd first.objects
not_joined limits joining bytes because refuses = refuses

module _ (limits : Limits) (joining : Joining) (bytes : List ℕ) (mid new : Joiner)
    (read : HasRead limits joining bytes mid) (ends : Ends limits mid new) where
  -- The joined records are written, and they are the result.
  pub has_joined : new.writing.grown ≡ None
      → Joins limits joining bytes new.writing.recording.items new.writing.numbers.items
  has_joined none =
      let written : AreWritten limits None new.writing.recording.items new.writing.numbers.items
      (joined joining read.items) =
      subst (λ o. AreWritten limits o new.writing.recording.items new.writing.numbers.items
      (joined joining read.items)) none
      (all_written limits joining mid new read.items read.represents ends) in
      record {
        items = read.items;
        split = read.split;
        text_is = written.1;
        numbers_are = written.2;
        fits = written.0;
      }

  -- A limit is exceeded with this record.
  pub has_grown : (n : ℕ) → new.writing.grown ≡ Some n → HasGrown limits joining bytes n
  has_grown n some =
      let grown : AreWritten limits (Some n) new.writing.recording.items new.writing.numbers.items
      (joined joining read.items) =
      subst (λ o. AreWritten limits o new.writing.recording.items new.writing.numbers.items
      (joined joining read.items)) some
      (all_written limits joining mid new read.items read.represents ends) in
      (read.items, read.split, grown)
