-- What the steps of `record` do.
use Rattle.std.specs.Prelude.{◌≡◌, ◌⊎◌, ℕ, ◌+◌, ◌≤◌, List, [], ◌∷◌, ◌++◌, length, Some, Result, Ok}
use Rattle.std.specs.Prelude.{Err}
use Rattle.dap_frame.specs.declared.fault.FrameFault.{FrameFault}
use Rattle.dap_frame.specs.{declared.limits.FrameLimits.FrameLimits, Frame.{IsOpen, FailsAt}}
use Rattle.dap_recording.specs.declared.recorder_fault.RecorderFault.{RecorderFault}
use Rattle.dap_recording.specs.declared.recorder_fault.RecorderFault.TheVariants.{Frame}
use Rattle.dap_recording.specs.declared.recorder_fault.RecorderFault.TheVariants.{Memory as NoRoom}
use Rattle.dap_recording.specs.RecordedTraces.{AreRecorded}
use Rattle.dap_recording.specs.RecorderReading.{RecorderReading, RepresentsRests, recorder_limits}
use Rattle.dap_recording.specs.{RecorderReading.text_of, Marker.marker, Recording.recording_text}
use Rattle.dap_recording.specs.TraceReading.{RepresentsPiece, TraceReading}
use Rattle.dap_tree.specs.declared.side.Side.{Side}
use Rattle.dap_input.specs.declared.limits.Limits.{Limits}
use Rattle.dap_device.specs.declared.device.Sink.{Ghosts as Sink}
use Rattle.dap_device.specs.declared.device.Source.{Ghosts as Source}
use Rattle.dap_device.specs.{declared.reading.Stop.Stop, Pieces.{HasReadSoFar, Window}}
use Rattle.dap_device.specs.{Reading.HasReadInput, Written.{AllSent, PrefixWritten}}
use Rattle.dap_input.specs.{RecordSteps.IsWithin, declared.refused.Refused.Refused}
use Rattle.dap_input.specs.declared.refused.Refused.TheVariants.{WriteFault, Memory}
use Rattle.dap_recording.specs.OneSide.{WantsMemory}
use Rattle.dap_record.specs.Tracing.{SoFar, TakesMemory, next_piece, sent_by}
use Rattle.dap_record.specs.TracingRun.{JudgesTrace}

-- The bytes that the two sides sent have been recorded: the recorder's text consists of the records
-- of the frames that ended, and the recorder represents the rests.
pub record HasRecorded (limits : FrameLimits) (recorder : RecorderReading)
    (taken : List (Side × ℕ)) : Type 0 where
  pub messages : List (Side × List ℕ)
  pub rests : Side → List ℕ
  pub recorded : AreRecorded limits taken messages rests
  pub represents : RepresentsRests recorder rests
  pub its_limits : recorder_limits recorder ≡ limits
  pub text : text_of recorder ≡ recording_text messages

-- A byte of the run proves this error in a frame of its side, after the bytes consumed before and
-- the bytes of the run before it.
pub record ShowsInRun (limits : FrameLimits) (recorder : RecorderReading) (taken : List (Side × ℕ))
    (side : Side) (run : List ℕ) (fault : FrameFault) : Type 0 where
  pub front : List ℕ
  pub byte : ℕ
  pub more : List ℕ
  pub run_is : run ≡ front ++ byte ∷ more
  pub messages : List (Side × List ℕ)
  pub rests : Side → List ℕ
  pub recorded : AreRecorded limits (taken ++ sent_by side front) messages rests
  pub are_open : (s : Side) → IsOpen limits (rests s)
  pub place : ℕ
  pub shows : FailsAt limits (rests side ++ byte ∷ []) fault place
  pub text : text_of recorder ≡ recording_text messages

-- Some bytes of the run were recorded after the bytes consumed before, and the remaining bytes of
-- the run require an allocation.
pub record TakesMemoryInRun (limits : FrameLimits) (taken : List (Side × ℕ)) (side : Side)
    (run : List ℕ) : Type 0 where
  pub front : List ℕ
  pub more : List ℕ
  pub run_is : run ≡ front ++ more
  pub messages : List (Side × List ℕ)
  pub rests : Side → List ℕ
  pub recorded : AreRecorded limits (taken ++ sent_by side front) messages rests
  pub are_open : (s : Side) → IsOpen limits (rests s)
  pub wants : WantsMemory limits (rests side) more

-- Outcome of a run of one side: it has been recorded after the bytes consumed before, or it
-- contains an error, or it requires an allocation that failed.
abbrev pub RecordsRun : {U : Type 0} → FrameLimits → RecorderReading → List (Side × ℕ) → Side
    → List ℕ → Result U RecorderFault → Type 0
RecordsRun limits new taken side run (Ok done) = HasRecorded limits new (taken ++ sent_by side run)
RecordsRun limits new taken side run (Err (Frame s fault)) = (s ≡ side)
    × ShowsInRun limits new taken side run fault
RecordsRun limits new taken side run (Err NoRoom) = TakesMemoryInRun limits taken side run

-- This is the result for the bytes that were read, and the recorder's text consists of the records
-- of the messages.
pub record HasTraced {U : Type 0} (limits : Limits) (bytes : List ℕ) (stop : Stop)
    (outcome : Result U Refused) (recorder : RecorderReading) : Type 0 where
  pub messages : List (Side × List ℕ)
  pub judges : JudgesTrace limits bytes stop outcome messages
  pub text : text_of recorder ≡ recording_text messages

-- The same, except that after a failed allocation the bytes require an allocation.
abbrev pub Traces : {U : Type 0} → Limits → List ℕ → Stop → Result U Refused → RecorderReading
    → Type 0
Traces limits bytes stop (Err Memory) recorder = TakesMemory limits.frame bytes
Traces limits bytes stop outcome recorder = HasTraced limits bytes stop outcome recorder

-- All of the bytes `whole` received so far except `rest` have been consumed. The trace reader and
-- the recorder represent the rests of the consumed bytes. If these end between two pieces, `last`
-- is the number of their last piece.
pub record Tracing (limits : Limits) (whole rest : List ℕ) (reader : TraceReading)
    (recorder : RecorderReading) (last : ℕ) : Type 0 where
  pub done : List ℕ
  pub so_far : SoFar limits.frame done
  pub whole_is : whole ≡ done ++ rest
  pub short : length whole ≤ limits.input
  pub raw : List ℕ
  pub raw_is : (s : Side) (tail more : List ℕ) → so_far.rest ++ tail ≡ marker s ∷ more
      → so_far.raw ≡ sent_by s raw
  pub no_raw : raw ≡ [] → so_far.raw ≡ []
  pub reads : RepresentsPiece reader (next_piece so_far) so_far.rest raw
  pub represents : RepresentsRests recorder so_far.rests
  pub its_limits : recorder_limits recorder ≡ limits.frame
  pub text : text_of recorder ≡ recording_text so_far.messages
  pub last_is : so_far.rest ≡ [] → last ≡ length so_far.pieces

-- Outcome of one chunk: it has been recorded after the bytes before it, or the trace is rejected,
-- whatever bytes follow and for whatever reason the input ends.
abbrev pub RecordsPiece : Limits → List ℕ → TraceReading → RecorderReading → Result ℕ Refused
    → Type 0
RecordsPiece limits whole reader recorder (Ok last) = Tracing limits whole [] reader recorder last
RecordsPiece limits whole reader recorder (Err refused) =
    (stop : Stop) → Traces {U = Unit {0}} limits whole stop (Err refused) recorder

module _ {R : Type 0} (source : Source R) where
  -- The rest of the input was read, up to one byte past the limit.
  pub record HasReadOn (old : Window) (before after : R) (stop : Stop) : Type 0 where
    pub more : List ℕ
    pub came : HasReadSoFar source before after more (Some stop)
    pub within : IsWithin (old.taken + length more) old.limit (Some stop)

  -- This is the result for the bytes received from the reader, and the recorder's text consists of
  -- the records of the messages.
  pub record TracesInput {U : Type 0} (limits : Limits) (old new : R) (outcome : Result U Refused)
      (recorder : RecorderReading) : Type 0 where
    pub bytes : List ℕ
    pub stop : Stop
    pub came : HasReadInput source old new limits.input bytes stop
    pub traces : Traces limits bytes stop outcome recorder

-- For every result except `Memory`, the records are written and flushed and the result is returned,
-- or the writer fails. After `Memory` nothing is written.
abbrev pub HasSentRecords : {W U : Type 0} → Sink W → List ℕ → Result U Refused → W → W
    → Result U Refused → Type 0
HasSentRecords sink records (Err Memory) before after result = (result ≡ Err Memory)
    × (after ≡ before)
HasSentRecords sink records outcome before after result =
    ((result ≡ outcome) × AllSent sink before after records)
    ⊎ ((result ≡ Err WriteFault) × PrefixWritten sink before after records)
