-- The invariant of the loop of `compact` over the records of its input, and its possible results.
use Rattle.std.proofs.Common.{◌≡◌, ℕ, ◌+◌, ◌-◌, ◌<◌, ◌^◌, List, [], ◌∷◌, ◌++◌, length, Option}
use Rattle.std.proofs.Common.{Some, None, Result, Ok, Err, refl}
use Rattle.dap_device.specs.declared.device.Source.{Ghosts as Source}
use Rattle.dap_tree.specs.Doc.{Doc}
use Rattle.dap_frame.specs.Reading.{Reading}
use Rattle.dap_input.specs.InputSteps.{AcceptsAll, RefusesOne}
use Rattle.dap_input.specs.ItemReading.{RepresentsFrame, frame_items}
use Rattle.dap_input.specs.Limits.{AreSound}
use Rattle.dap_input.specs.RecordSteps.{IsAtStart, ReadsNextFrame}
use Rattle.dap_input.specs.declared.limits.Limits.{Limits}
use Rattle.dap_input.specs.declared.records.Records.{Records}
use Rattle.dap_input.specs.declared.refused.Refused.{Refused}
use Rattle.dap_input.proofs.InputLoop.{ReadsAs}
use Rattle.dap_input.proofs.WholeInputs.{Going, accepts_all, at_start, few_failures, fewer_left}
use Rattle.dap_input.proofs.WholeInputs.{on, refuses_held, refuses_read, small_count, small_number}
use Rattle.dap_compact.specs.Compacting.{Fits, compacting, text}
use Rattle.dap_compact.specs.CompactingSteps.{Appended}
use Rattle.dap_compact.proofs.CompactingFacts.{accepted_facts, fits_none, readable_frames}
use Rattle.dap_compact.proofs.CompactingFacts.{value_laws}

-- A framer returns the records that are checked.
pub reads_frames : (limits : Limits) → AreSound limits
    → ReadsAs (compacting limits) (frame_items limits.frame) (λ content. content)
reads_frames limits sound = record {
  records = readable_frames limits sound;
  judged = value_laws limits;
  accepted = accepted_facts limits;
  item_of = λ bytes content is. is;
  fault_of = λ bytes cause ends. ends;
  open_of = λ bytes is_open. is_open;
}

-- The records before the next one are checked, and the output for their values is buffered.
pub record Compacting {R : Type 0} (limits : Limits) (source : Source R) (start reader : R)
    (records : Records Reading)
    (out : List ℕ) : Type 0 where
  pub values : List Doc
  pub going : Going (compacting limits) (RepresentsFrame limits.frame) source start
      reader records values
  pub fits : Fits limits values
  pub text_is : out ≡ text values

module _ {R : Type 0} (limits : Limits) (sound : AreSound limits) (source : Source R) where
  pub none_read : (reader : R) (records : Records Reading)
      → IsAtStart (RepresentsFrame limits.frame) limits.input records
      → Compacting limits source reader reader records []
  none_read reader records start = record {
    values = [];
    going = at_start (compacting limits) (frame_items limits.frame) (λ content. content)
        (reads_frames limits sound) (RepresentsFrame limits.frame) source reader records
        start;
    fits = fits_none limits;
    text_is = refl;
  }

  module _ (start reader : R) (records : Records Reading) (out : List ℕ)
      (was : Compacting limits source start reader records out) where
    pub few_records : records.number < 2 ^ 63
    few_records =
        small_number (compacting limits) (frame_items limits.frame) (λ content. content)
        (reads_frames limits sound) (RepresentsFrame limits.frame) source start reader
        records was.values was.going sound.input

    pub few_given : source.given start < 2 ^ 62
        → source.given reader + (records.pieces.limit - records.pieces.taken) < 2 ^ 63
    few_given =
        small_count (compacting limits) (frame_items limits.frame) (λ content. content)
        (reads_frames limits sound) (RepresentsFrame limits.frame) source start reader
        records was.values was.going sound.input

    pub few_failed : source.failures start < 2 ^ 62 → source.failures reader < 2 ^ 63
    few_failed =
        few_failures (compacting limits) (frame_items limits.frame) (λ content. content)
        (reads_frames limits sound) (RepresentsFrame limits.frame) source start reader
        records was.values was.going

  module _ (start reader : R) (records : Records Reading) (out : List ℕ)
      (was : Compacting limits source start reader records out)
      (new : Records Reading) (after : R) where
    abbrev Reads : Result (Option (List ℕ)) Refused → Type 0
    Reads outcome = ReadsNextFrame limits.frame source
        records
        new reader after outcome

    abbrev Refuses : Refused → Type 0
    Refuses because = RefusesOne (compacting limits) source start after new because

    abbrev Appends : {U : Type 0} → List ℕ → Result U Refused → List ℕ → Type 0
    Appends content outcome written = (values : List Doc) → Fits limits values → out ≡ text values
        → Appended limits values records.number content outcome written

    pub not_read : (because : Refused) → Reads (Err because) → Refuses because
    not_read =
        refuses_read (compacting limits) (frame_items limits.frame) (λ content. content)
        (reads_frames limits sound) (RepresentsFrame limits.frame) source start reader
        records was.values was.going new after

    pub all_compacted : Reads (Ok None)
        → (values : List Doc)
        × AcceptsAll (compacting limits) source start after values
        × (out ≡ text values)
    all_compacted read = (
      was.values,
      accepts_all (compacting limits) (frame_items limits.frame) (λ content. content)
          (reads_frames limits sound) (RepresentsFrame limits.frame) source start reader
          records was.values was.going new after read,
      was.text_is,
    )

    pub not_appended : (content written : List ℕ) (because : Refused)
        → Reads (Ok (Some content)) → Appends {U = Unit {0}} content (Err because) written
        → Refuses because
    not_appended content written because read appended =
        refuses_held (compacting limits) (frame_items limits.frame) (λ content. content)
        (reads_frames limits sound) (RepresentsFrame limits.frame) source start reader
        records was.values was.going new after content read because
        (appended was.values was.fits was.text_is)

    pub one_more : {U : Type 0} (done : U) (content written : List ℕ)
        → Reads (Ok (Some content)) → Appends content (Ok done) written
        → Compacting limits source start after new written
    one_more done content written read appended =
        let added = appended was.values was.fits was.text_is in
        record {
          values = was.values ++ added.value ∷ [];
          going = on (compacting limits) (frame_items limits.frame) (λ content. content)
              (reads_frames limits sound) (RepresentsFrame limits.frame) source start
              reader records was.values was.going new after content read added.value
              (added.is_read, added.fits);
          fits = added.fits;
          text_is = added.text_is;
        }

    pub fewer : (content : List ℕ) → Reads (Ok (Some content))
        → (new.pieces.limit - new.pieces.taken) + length new.pieces.unread
        < (records.pieces.limit - records.pieces.taken) + length records.pieces.unread
    fewer =
        fewer_left (compacting limits) (frame_items limits.frame) (λ content. content)
        (reads_frames limits sound) (RepresentsFrame limits.frame) source start reader
        records was.values was.going new after
