-- The result of reading the next record of an input, for any kind of record.
use Rattle.std.specs.Prelude.{◌≡◌, ◌≢◌, ◌⊎◌, ℕ, ◌+◌, ◌<◌, ◌≤◌, false, List, [], ◌∷◌, ◌++◌, length}
use Rattle.std.specs.Prelude.{Option, Some, None, is_some, Result, Ok, Err}
use Rattle.dap_device.specs.declared.device.Source.{Ghosts as Source}
use Rattle.dap_device.specs.{Pieces.HasReadSoFar, declared.reading.Stop.Stop}
use Rattle.dap_device.specs.declared.reading.Stop.TheVariants.{End, Full, Failed}
use Rattle.dap_frame.specs.{Frame.HasContentByte, Grammar.{Grammar, IsItem, FailsAt}}
use Rattle.dap_frame.specs.{Reading.Reading, declared.limits.FrameLimits.FrameLimits}
use Rattle.dap_recording.specs.RecordReading.{HasMarkedContent, RecordReading}
use Rattle.dap_recording.specs.declared.record.Record.{Record as WholeRecord}
use Rattle.dap_recording.specs.declared.record_fault.RecordCause.{RecordCause}
use Rattle.dap_recording.specs.declared.record_fault.RecordCause.TheVariants.{Cut}
use Rattle.dap_recording.specs.declared.record_fault.RecordCause.TheVariants.{Memory as NoMemory}
use Rattle.dap_input.specs.ItemReading.{frame_items, record_items, RepresentsFrame}
use Rattle.dap_input.specs.{ItemReading.RepresentsRecord, declared.records.Records.Records}
use Rattle.dap_input.specs.declared.refused.Refused.{Refused}
use Rattle.dap_input.specs.declared.refused.Refused.TheVariants.{InputTooLong, Record, ReadFault}
use Rattle.dap_input.specs.declared.refused.Refused.TheVariants.{Memory}

-- The reader is between two records, no more has been read than allowed, and the source has not
-- stopped.
pub record IsBetweenRecords {I : Type 0} (represents : I → List ℕ → Type 0) (records : Records I)
    : Type 0
  where
    pub reads : represents records.reader []
    pub within : records.pieces.taken ≤ records.pieces.limit
    pub goes_on : records.is_over ≡ false

-- Nothing of the input has been read, and at most `limit` bytes may be read.
pub record IsAtStart {I : Type 0} (represents : I → List ℕ → Type 0) (limit : ℕ)
    (records : Records I) : Type 0 where
  pub between : IsBetweenRecords represents records
  pub pieces : records.pieces ≡ record { unread = []; taken = 0; limit = limit }
  pub number : records.number ≡ 1

-- the number of bytes read if the source stops so: at most the limit, or one more
abbrev pub IsWithin : ℕ → ℕ → Option Stop → Type 0
IsWithin taken limit (Some Full) = taken ≡ limit + 1
IsWithin taken limit stop = taken ≤ limit

module _ {A : Type 0} (g : Grammar A RecordCause) where
  -- The bytes received after the buffered ones, except for the last chunk, neither complete the
  -- record nor prove an error.
  abbrev pub IsNeeded : List ℕ → List ℕ → Type 0
  IsNeeded held more =
      (more ≡ [])
      ⊎ ((before : List ℕ) × (last : List ℕ) × (more ≡ before ++ last) × (0 < length last)
      × (length last ≤ 65536) × g.IsOpen (held ++ before))

  -- A byte beyond the limit was received, and the record is not complete before it.
  pub record IsTooLong (held more : List ℕ) : Type 0 where
    pub earlier : List ℕ
    pub byte : ℕ
    pub more_is : more ≡ earlier ++ byte ∷ []
    pub is_open : g.IsOpen (held ++ earlier)

module _ {I A : Type 0} (g : Grammar A RecordCause) (represents : I → List ℕ → Type 0)
    (takes_memory : List ℕ → Type 0) where
  -- A complete record was received, and the unread bytes come after it.
  pub record HasWhole (old new : Records I) (bytes : List ℕ) (whole : A) : Type 0 where
    pub front : List ℕ
    pub split : bytes ≡ front ++ new.pieces.unread
    pub is_record : IsItem g front whole
    pub between : IsBetweenRecords represents new
    pub number_is : new.number ≡ old.number + 1

  -- The result for the next record, if these bytes were received, of which `more` came last. An
  -- allocation fails only for a byte of a content.
  abbrev pub Finds : Records I → Records I → List ℕ → List ℕ → Option Stop
      → Result (Option A) Refused → Type 0
  Finds old new bytes more stop (Ok (Some whole)) = (stop ≡ None) × HasWhole old new bytes whole
  Finds old new bytes more stop (Ok None) = (stop ≡ Some End) × (bytes ≡ [])
      × (new.number ≡ old.number)
  Finds old new bytes more stop (Err (Record n Cut)) = (n ≡ old.number) × (stop ≡ Some End)
      × (bytes ≢ []) × g.IsOpen bytes
  Finds old new bytes more stop (Err (Record n NoMemory)) = ⊥
  Finds old new bytes more stop (Err (Record n why)) = (n ≡ old.number) × (stop ≡ None)
      × ((place : ℕ) × FailsAt g bytes why place)
  Finds old new bytes more stop (Err (InputTooLong n)) = (n ≡ old.number) × (stop ≡ Some Full)
      × IsTooLong g old.pieces.unread more
  Finds old new bytes more stop (Err ReadFault) = (stop ≡ Some Failed) × g.IsOpen bytes
  Finds old new bytes more stop (Err Memory) = (stop ≡ None) × (bytes ≢ [])
      × (new.number ≡ old.number) × takes_memory bytes
  Finds old new bytes more stop (Err refused) = ⊥

  module _ {R : Type 0} (source : Source R) where
    -- The next record was read, after those before: these bytes were received, no more than
    -- required, with this result.
    pub record ReadsNext (old new : Records I) (before after : R)
        (outcome : Result (Option A) Refused) : Type 0 where
      pub more : List ℕ
      pub stop : Option Stop
      pub came : HasReadSoFar source before after more stop
      pub needed : IsNeeded g old.pieces.unread more
      pub within : IsWithin (old.pieces.taken + length more) old.pieces.limit stop
      pub taken : stop ≡ None → new.pieces.taken ≡ old.pieces.taken + length more
      pub limit_is : new.pieces.limit ≡ old.pieces.limit
      pub over : new.is_over ≡ is_some stop
      pub finds : Finds old new (old.pieces.unread ++ more) more stop outcome

-- The next record of a recording was read.
abbrev pub ReadsNextRecord : {R : Type 0} → FrameLimits → Source R → Records RecordReading
    → Records RecordReading → R → R → Result (Option WholeRecord) Refused → Type 0
ReadsNextRecord limits =
    ReadsNext (record_items limits) (RepresentsRecord limits) (HasMarkedContent limits)

-- The next frame of a stream was read.
abbrev pub ReadsNextFrame : {R : Type 0} → FrameLimits → Source R → Records Reading
    → Records Reading → R → R → Result (Option (List ℕ)) Refused → Type 0
ReadsNextFrame limits =
    ReadsNext (frame_items limits) (RepresentsFrame limits) (HasContentByte limits)

-- The result if no more bytes are received and the reader represents these bytes of the next
-- record.
abbrev pub Stops : {I A : Type 0} → (I → List ℕ → Type 0) → Records I → Stop
    → Result (Option A) Refused → Type 0
Stops represents records Full outcome = outcome ≡ Err (InputTooLong records.number)
Stops represents records Failed outcome = outcome ≡ Err ReadFault
Stops represents records End outcome =
    (held : List ℕ) → represents records.reader held
    → ((held ≡ []) × (outcome ≡ Ok None))
    ⊎ ((held ≢ []) × (outcome ≡ Err (Record records.number Cut)))

-- The rest of the input was received, up to a byte beyond the limit.
pub record ReadsRest {I R : Type 0} (source : Source R) (old : Records I)
    (before after : R) : Type 0 where
  pub more : List ℕ
  pub stop : Stop
  pub came : HasReadSoFar source before after more (Some stop)
  pub within : IsWithin (old.pieces.taken + length more) old.pieces.limit (Some stop)
