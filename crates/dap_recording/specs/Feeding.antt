-- Calls of the readers and the recorder over a complete input, one after another. Each call
-- receives the rest of the current chunk. When the rest is empty, the next chunk follows. A call
-- that returned `Memory` may be repeated.
use Rattle.std.specs.Prelude.{◌≡◌, ℕ, List, [], ◌∷◌, drop, Option, Some, None, Result, Ok, Err}
use Rattle.dap_frame.specs.ItemFeeding.{Calls, Feeds}
use Rattle.dap_tree.specs.declared.side.Side.{Side}
use Rattle.dap_recording.specs.declared.record.Record.{Record}
use Rattle.dap_recording.specs.declared.record_fault.RecordCause.TheVariants as cause
use Rattle.dap_recording.specs.declared.record_fault.RecordFault.{RecordFault}
use Rattle.dap_recording.specs.declared.fed_record.FedRecord.{FedRecord}
use Rattle.dap_recording.specs.declared.recorder_fault.RecorderFault.{RecorderFault}
use Rattle.dap_recording.specs.declared.recorder_fault.RecorderFault.TheVariants.{Memory}
use Rattle.dap_recording.specs.declared.trace_fault.TraceFault.{TraceFault}
use Rattle.dap_recording.specs.declared.fed_trace.FedTrace.{FedTrace}
use Rattle.dap_recording.specs.declared.fed_trace.TracePart.{TracePart}
use Rattle.dap_recording.specs.RecordReading.{RecordReading, RepresentsRecords, GivesRecord}
use Rattle.dap_recording.specs.RecordReading.{record_limits}
use Rattle.dap_recording.specs.RecorderReading.{RecorderReading, RepresentsRests, GivesPiece}
use Rattle.dap_recording.specs.RecorderReading.{recorder_limits}
use Rattle.dap_recording.specs.TraceReading.{TraceReading, RepresentsPiece, GivesTrace}

-- The contract of one call of `RecordReader::feed` states these facts about the reader before and
-- after it.
pub record IsRecordCall (old : RecordReading) (piece : List ℕ)
    (result : Result FedRecord RecordFault) (new : RecordReading) : Type 0 where
  pub gives : (number : ℕ) (bytes : List ℕ) → RepresentsRecords old number bytes
      → GivesRecord (record_limits old) number bytes piece result new
  pub limits : record_limits new ≡ record_limits old

-- the message of a record, if one ended
abbrev pub message_in : Option Record → List (Side × List ℕ)
message_in None = []
message_in (Some whole) = (whole.side, whole.content) ∷ []

-- the calls of `RecordReader::feed`, by their contract
abbrev pub record_calls : Calls RecordReading FedRecord (Side × List ℕ)
record_calls = record {
  used = λ fed. fed.used;
  given = λ fed. message_in fed.whole;
  Took = λ old piece fed new. IsRecordCall old piece (Ok fed) new;
  Refused = λ old piece new. (fault : RecordFault) × IsRecordCall old piece (Err fault) new
      × (fault.cause ≡ cause.Memory);
}

-- Calls of `RecordReader::feed`, from the first reader on and over these chunks, have returned
-- these messages.
abbrev pub FeedsRecords : RecordReading → List (List ℕ) → List (Side × List ℕ) → List (List ℕ)
    → RecordReading → Type 0
FeedsRecords = Feeds record_calls

-- The contract of one call of `TraceReader::feed` states these facts about the reader before and
-- after it.
pub record IsTraceCall (old : TraceReading) (input : List ℕ) (result : Result FedTrace TraceFault)
    (new : TraceReading) : Type 0 where
  pub gives : (piece : ℕ) (bytes raw : List ℕ) → RepresentsPiece old piece bytes raw
      → GivesTrace piece bytes raw input result new

-- a run of raw bytes: the number of its piece, its side, its bytes
pub record Run : Type 0 where
  pub piece : ℕ
  pub side : Side
  pub bytes : List ℕ

-- the returned run, if any
abbrev pub run_in : Option TracePart → List Run
run_in None = []
run_in (Some part) = record { piece = part.piece; side = part.side; bytes = part.bytes.now } ∷ []

-- the calls of `TraceReader::feed`, by their contract; they do not allocate
abbrev pub trace_calls : Calls TraceReading FedTrace Run
trace_calls = record {
  used = λ fed. fed.used;
  given = λ fed. run_in fed.part;
  Took = λ old input fed new. IsTraceCall old input (Ok fed) new;
  Refused = λ old input new. ⊥;
}

-- Calls of `TraceReader::feed`, from the first reader on and over these inputs, have returned these
-- runs.
abbrev pub FeedsTrace : TraceReading → List (List ℕ) → List Run → List (List ℕ) → TraceReading
    → Type 0
FeedsTrace = Feeds trace_calls

-- The contract of one call of `Recorder::piece` states these facts about the recorder before and
-- after it.
pub record IsPieceCall (old : RecorderReading) (side : Side) (piece : List ℕ)
    (result : Result ℕ RecorderFault) (new : RecorderReading) : Type 0 where
  pub gives : (rests : Side → List ℕ) → RepresentsRests old rests
      → GivesPiece side rests piece old new result
  pub limits : recorder_limits new ≡ recorder_limits old

-- Calls of `Recorder::piece`, from the first recorder on and over these pieces in order: `left` are
-- the remaining pieces, and the last argument is the current recorder.
pub data Records (first : RecorderReading) (pieces : List (Side × List ℕ)) : List (Side × List ℕ)
    → RecorderReading → Type 0 where
  begun : Records first pieces pieces first
  next_piece : {left : List (Side × List ℕ)} {recorder : RecorderReading} (side : Side)
      → Records first pieces ((side, []) ∷ left) recorder → Records first pieces left recorder
  took : {left : List (Side × List ℕ)} {recorder new : RecorderReading} (side : Side)
      (piece : List ℕ) (used : ℕ)
      → Records first pieces ((side, piece) ∷ left) recorder
      → IsPieceCall recorder side piece (Ok used) new
      → Records first pieces ((side, drop used piece) ∷ left) new
  refused : {left : List (Side × List ℕ)} {recorder new : RecorderReading} (side : Side)
      (piece : List ℕ)
      → Records first pieces ((side, piece) ∷ left) recorder
      → IsPieceCall recorder side piece (Err Memory) new
      → Records first pieces ((side, piece) ∷ left) new
