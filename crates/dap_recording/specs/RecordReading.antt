-- The number and the bytes that a reader of records represents to its callers, and the result of a
-- call.
use Rattle.std.specs.Prelude.{◌≡◌, ◌≢◌, ℕ, ◌+◌, ◌-◌, ◌^◌, ◌<◌, ◌≤◌, List, [], ◌∷◌, ◌++◌, length}
use Rattle.std.specs.Prelude.{min, take, Result, Ok, Err, MatchOption}
use Rattle.dap_frame.specs.declared.limits.FrameLimits.{FrameLimits}
use Rattle.dap_frame.specs.Frame.{IsFrame, HasContentByte}
use Rattle.dap_frame.specs.Reading.{Reading, Represents, limits_of}
use Rattle.dap_tree.specs.declared.side.Side.{Side}
use Rattle.dap_recording.specs.declared.record_fault.RecordCause.TheVariants.{Memory}
use Rattle.dap_recording.specs.declared.record_fault.RecordFault.{RecordFault}
use Rattle.dap_recording.specs.declared.fed_record.FedRecord.{FedRecord}
use Rattle.dap_recording.specs.declared.record_state.RecordState.{RecordState}
use Rattle.dap_recording.specs.declared.record_state.RecordState.TheVariants.{Marker, Frame}
use Rattle.dap_recording.specs.declared.record_state.RecordState.TheVariants.{LineEnd, Failed}
use Rattle.dap_recording.specs.Marker.{marker}
use Rattle.dap_recording.specs.Recording.{IsRecord, ShowsFault}

-- The stored state: a framer, the progress of the current record, and its number. Callers need only
-- `record_limits`, `HasFailedAt` and `RepresentsRecords`.
pub record RecordReading : Type 0 where
  pub framer : Reading
  pub state : RecordState
  pub number : ℕ

-- the limits that the reader was made with
abbrev pub record_limits : RecordReading → FrameLimits
record_limits reader = limits_of reader.framer

-- This error occurred before.
pub record HasFailedAt (reader : RecordReading) (fault : RecordFault) : Type 0 where
  pub state : reader.state ≡ Failed fault.cause
  pub number : reader.number ≡ fault.number

-- The stored state is that of these bytes, received since the last complete record.
abbrev pub IsKeptOfRecord : Reading → RecordState → List ℕ → Type 0
IsKeptOfRecord framer Marker bytes = (bytes ≡ []) × Represents framer []
IsKeptOfRecord framer (Frame side) bytes = (rest : List ℕ) × (bytes ≡ marker side ∷ rest)
    × Represents framer rest
IsKeptOfRecord framer (LineEnd whole) bytes =
    (frame : List ℕ) × (bytes ≡ marker whole.side ∷ frame)
    × IsFrame (limits_of framer) frame whole.content
    × Represents framer []
IsKeptOfRecord framer (Failed cause) bytes = ⊥

-- The reader represents these bytes of the record with this number, which is incomplete.
pub record RepresentsRecords (reader : RecordReading) (number : ℕ) (bytes : List ℕ) : Type 0 where
  pub number_is : reader.number ≡ number
  pub kept : IsKeptOfRecord reader.framer reader.state bytes

-- the next number; a number remains at the maximum of 64 bits (own)
abbrev pub next_number : ℕ → ℕ
next_number number = min (number + 1) (2 ^ 64 - 1)

-- the number after these records or pieces; they are counted from 1 (own)
abbrev pub number_behind : {A : Type 0} → List A → ℕ
number_behind before = min (length before + 1) (2 ^ 64 - 1)

-- The bytes start with the marker of a side, and a byte of the content of the frame after it has
-- arrived.
abbrev pub HasMarkedContent : FrameLimits → List ℕ → Type 0
HasMarkedContent limits bytes = (side : Side) × (rest : List ℕ) × (bytes ≡ marker side ∷ rest)
    × HasContentByte limits rest

-- The effect of a call on a reader that represented these bytes. Either it consumed the whole chunk
-- and then represents both. Or it consumed the bytes up to the end of a record and then represents
-- no bytes of the next one.
abbrev pub GivesFedRecord : FrameLimits → ℕ → List ℕ → List ℕ → FedRecord → RecordReading → Type 0
GivesFedRecord limits number bytes piece fed new = (fed.used ≤ length piece) × MatchOption fed.whole
    ((fed.used ≡ length piece) × RepresentsRecords new number (bytes ++ piece))
    (λ whole. IsRecord limits (bytes ++ take fed.used piece) whole.side whole.content
    × RepresentsRecords new (next_number number) [])

-- The returned error is `Memory`: the chunk is not empty, a byte of a content has arrived, and the
-- reader still represents the bytes. Or the bytes and the chunk prove the error.
pub record GivesRecordFault (limits : FrameLimits) (number : ℕ) (bytes piece : List ℕ)
    (fault : RecordFault) (new : RecordReading) : Type 0 where
  pub number_is : fault.number ≡ number
  pub memory : fault.cause ≡ Memory → RepresentsRecords new number bytes
  pub for_content : fault.cause ≡ Memory → HasMarkedContent limits (bytes ++ piece)
  pub for_bytes : fault.cause ≡ Memory → 0 < length piece
  pub shown : fault.cause ≢ Memory → (i : ℕ) × ShowsFault limits (bytes ++ piece) fault.cause i
  pub failed : fault.cause ≢ Memory → HasFailedAt new fault

-- The result of a call if the reader represented the bytes, and the bytes that it represents then.
abbrev pub GivesRecord : FrameLimits → ℕ → List ℕ → List ℕ → Result FedRecord RecordFault
    → RecordReading → Type 0
GivesRecord limits number bytes piece (Ok fed) new =
    GivesFedRecord limits number bytes piece fed new
GivesRecord limits number bytes piece (Err fault) new =
    GivesRecordFault limits number bytes piece fault new
