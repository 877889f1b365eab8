-- The result of a reader of items, for any kind of item, and the items of the readers.
use Rattle.std.specs.Prelude.{◌≡◌, ℕ, List, [], ◌++◌, length, take, Result, Ok, Err, MatchOption}
use Rattle.dap_frame.specs.{Grammar.{Grammar, IsItem, FailsAt}, Combinators.map_fault}
use Rattle.dap_frame.specs.{declared.limits.FrameLimits.FrameLimits, Frame.frames}
use Rattle.dap_frame.specs.Reading.{Reading, Represents, limits_of}
use Rattle.dap_recording.specs.Recording.{IsRecord, IsOpenRecord, records}
use Rattle.dap_recording.specs.RecordReading.{RecordReading, RepresentsRecords, record_limits}
use Rattle.dap_recording.specs.declared.record.Record.{Record as WholeRecord}
use Rattle.dap_recording.specs.declared.record_fault.RecordCause.{RecordCause}
use Rattle.dap_recording.specs.declared.record_fault.RecordCause.TheVariants.{Cut, Frame, Memory}
use Rattle.dap_input.specs.declared.item_reader.FedItem.{FedItem}

module _ {S A : Type 0} (g : Grammar A RecordCause) (represents : S → List ℕ → Type 0) where
  -- The effect of a call on a reader that represented these bytes. Either it consumed the whole
  -- chunk and then represents both. Or it consumed the bytes up to the end of an item and then
  -- represents no bytes of the next one.
  abbrev pub GivesFedItem : List ℕ → List ℕ → FedItem A → S → Type 0
  GivesFedItem bytes piece fed new = MatchOption fed.item
      ((fed.used ≡ length piece) × represents new (bytes ++ piece))
      (λ item. IsItem g (bytes ++ take fed.used piece) item × represents new [])

  -- The same, or an error that the bytes and the chunk prove. No chunk proves that an input ends
  -- too early. An allocation failure states nothing about the bytes.
  abbrev pub GivesItem : List ℕ → List ℕ → Result (FedItem A) RecordCause → S → Type 0
  GivesItem bytes piece (Ok fed) new = GivesFedItem bytes piece fed new
  GivesItem bytes piece (Err Memory) new = Unit {0}
  GivesItem bytes piece (Err Cut) new = ⊥
  GivesItem bytes piece (Err cause) new = (place : ℕ) × FailsAt g (bytes ++ piece) cause place

-- frames as items, with their errors as those of records
abbrev pub frame_items : FrameLimits → Grammar (List ℕ) RecordCause
frame_items limits = map_fault Frame (frames limits)

-- The framer, made with these limits, represents these bytes of a frame.
abbrev pub RepresentsFrame : FrameLimits → Reading → List ℕ → Type 0
RepresentsFrame limits framer bytes = (limits_of framer ≡ limits) × Represents framer bytes

-- records as items, each as the value that a reader returns
abbrev pub EndsRecord : FrameLimits → List ℕ → Result WholeRecord RecordCause → Type 0
EndsRecord limits bytes (Ok whole) = IsRecord limits bytes whole.side whole.content
EndsRecord limits bytes (Err cause) = (records limits).Ends bytes (Err cause)

abbrev pub record_items : FrameLimits → Grammar WholeRecord RecordCause
record_items limits = record { Ends = EndsRecord limits; IsOpen = IsOpenRecord limits }

-- The reader, made with these limits, represents these bytes of a record of some number.
abbrev pub RepresentsRecord : FrameLimits → RecordReading → List ℕ → Type 0
RepresentsRecord limits reader bytes = (record_limits reader ≡ limits)
    × ((number : ℕ) × RepresentsRecords reader number bytes)
