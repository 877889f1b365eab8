-- Laws of recordings and traces, which hold for all bytes, and of the readers and the recorder,
-- which hold for any chunks.
use Rattle.std.specs.Prelude.{◌≡◌, ◌≢◌, ℕ, ◌<◌, ◌≤◌, ◌⊎◌, List, [], ◌∷◌, ◌++◌, length, Err}
use Rattle.std.specs.List.{concat, AllByRecursion}
use Rattle.dap_frame.specs.declared.limits.FrameLimits.{FrameLimits}
use Rattle.dap_frame.specs.declared.fault.FrameFault.{FrameFault}
use Rattle.dap_frame.specs.declared.fault.FrameFault.TheVariants as frame_fault
use Rattle.dap_frame.specs.Limits.{IsSound}
use Rattle.dap_tree.specs.declared.side.Side.{Side}
use Rattle.dap_recording.specs.declared.record_fault.RecordCause.{RecordCause}
use Rattle.dap_recording.specs.declared.record_fault.RecordCause.TheVariants.{Frame, Memory}
use Rattle.dap_recording.specs.declared.record_fault.RecordFault.{RecordFault}
use Rattle.dap_recording.specs.declared.trace_fault.TraceCause.{TraceCause}
use Rattle.dap_recording.specs.declared.trace_fault.TraceFault.{TraceFault}
use Rattle.dap_recording.specs.Recording.{IsRecord, HasRecord, IsRecording, RecordStream}
use Rattle.dap_recording.specs.Recording.{ShowsFault, IsOpenRecord, record_text, recording_text}
use Rattle.dap_recording.specs.RecordReading.{RecordReading, RepresentsRecords, HasFailedAt}
use Rattle.dap_recording.specs.RecordReading.{number_behind}
use Rattle.dap_recording.specs.RecordReading.{record_limits}
use Rattle.dap_recording.specs.Trace.{IsPiece, HasPiece, PieceStream, ShowsTraceFault, IsOpenPiece}
use Rattle.dap_recording.specs.TraceReading.{TraceReading, RepresentsPiece, HasFailedAtPiece}
use Rattle.dap_recording.specs.RecorderReading.{RecorderReading, RepresentsRests}
use Rattle.dap_recording.specs.RecordedTraces.{AreRecorded, RecordedSoFar}
use Rattle.dap_recording.specs.Feeding.{IsRecordCall, FeedsRecords, Records, Run, IsTraceCall}
use Rattle.dap_recording.specs.Feeding.{FeedsTrace}
use Rattle.dap_recording.specs.Runs.{ReadSoFar}

-- Bytes start with at most one record.
abbrev pub OneRecord : Type 0
OneRecord = (limits : FrameLimits) (f g y z : List ℕ) (s t : Side) (c d : List ℕ)
    → f ++ y ≡ g ++ z → IsRecord limits f s c → IsRecord limits g t d → (f ≡ g) × (s ≡ t) × (c ≡ d)

-- The empty byte string is not a record.
abbrev pub NoEmptyRecord : Type 0
NoEmptyRecord = (limits : FrameLimits) (side : Side) (content : List ℕ)
    → IsRecord limits [] side content → ⊥

-- Bytes prove at most one error, at one byte.
abbrev pub OneCause : Type 0
OneCause = (limits : FrameLimits) (bytes : List ℕ) (e f : RecordCause) (i j : ℕ)
    → ShowsFault limits bytes e i → ShowsFault limits bytes f j → (e ≡ f) × (i ≡ j)

-- The byte that proves an error is one of the bytes, counted from 1.
abbrev pub ShownWithin : Type 0
ShownWithin = (limits : FrameLimits) (bytes : List ℕ) (cause : RecordCause) (i : ℕ)
    → ShowsFault limits bytes cause i → (0 < i) × (i ≤ length bytes)

-- A frame proves neither the end of a stream nor an allocation failure.
abbrev pub ShownOfFormat : Type 0
ShownOfFormat = (limits : FrameLimits) (bytes : List ℕ) (fault : FrameFault) (i : ℕ)
    → ShowsFault limits bytes (Frame fault) i
    → (fault ≢ frame_fault.Cut) × (fault ≢ frame_fault.Memory)

-- An error remains if more bytes follow.
abbrev pub ShownMore : Type 0
ShownMore = (limits : FrameLimits) (bytes more : List ℕ) (cause : RecordCause) (i : ℕ)
    → ShowsFault limits bytes cause i → ShowsFault limits (bytes ++ more) cause i

-- An error does not depend on bytes after the one that proves it.
abbrev pub ShownFront : Type 0
ShownFront = (limits : FrameLimits) (bytes more : List ℕ) (cause : RecordCause) (i : ℕ)
    → ShowsFault limits (bytes ++ more) cause i → i ≤ length bytes → ShowsFault limits bytes cause i

-- An error is proved by a byte after incomplete bytes.
abbrev pub ShownLater : Type 0
ShownLater = (limits : FrameLimits) (bytes more : List ℕ) (cause : RecordCause) (i : ℕ)
    → IsOpenRecord limits bytes → ShowsFault limits (bytes ++ more) cause i → length bytes < i

-- Bytes that start with a record prove no error.
abbrev pub RecordNotFaulty : Type 0
RecordNotFaulty =
    (limits : FrameLimits) (front more : List ℕ) (side : Side) (content : List ℕ)
    (cause : RecordCause) (i : ℕ)
    → IsRecord limits front side content → ShowsFault limits (front ++ more) cause i → ⊥

-- Bytes that start with a record are not incomplete.
abbrev pub RecordNotOpen : Type 0
RecordNotOpen = (limits : FrameLimits) (front more : List ℕ) (side : Side) (content : List ℕ)
    → IsRecord limits front side content → IsOpenRecord limits (front ++ more) → ⊥

-- Incomplete bytes prove no error.
abbrev pub OpenNotFaulty : Type 0
OpenNotFaulty = (limits : FrameLimits) (bytes : List ℕ) (cause : RecordCause) (i : ℕ)
    → IsOpenRecord limits bytes → ShowsFault limits bytes cause i → ⊥

-- Every byte string starts with a record, proves an error, or is incomplete.
abbrev pub SomeOutcome : Type 0
SomeOutcome = (limits : FrameLimits) (bytes : List ℕ)
    → HasRecord limits bytes
    ⊎ (((cause : RecordCause) × (i : ℕ) × ShowsFault limits bytes cause i)
    ⊎ IsOpenRecord limits bytes)

-- The empty byte string is incomplete.
abbrev pub OpenNone : Type 0
OpenNone = (limits : FrameLimits) → IsOpenRecord limits []

-- The output for a message is a record of it.
abbrev pub WrittenIsRecord : Type 0
WrittenIsRecord = (limits : FrameLimits) (side : Side) (content : List ℕ)
    → IsSound limits → length content ≤ limits.content
    → IsRecord limits (record_text side content) side content

-- The output for several messages is a recording of them.
abbrev pub WrittenIsRecording : Type 0
WrittenIsRecording = (limits : FrameLimits) (messages : List (Side × List ℕ))
    → IsSound limits → AllByRecursion (λ message. length message.1 ≤ limits.content) messages
    → IsRecording limits (recording_text messages) messages

-- The empty byte string is a recording of no messages.
abbrev pub EmptyRecording : Type 0
EmptyRecording = (limits : FrameLimits) → IsRecording limits [] []

-- Bytes are a recording of at most one list of messages.
abbrev pub OneRecording : Type 0
OneRecording = (limits : FrameLimits) (bytes : List ℕ) (ms ns : List (Side × List ℕ))
    → IsRecording limits bytes ms → IsRecording limits bytes ns → ms ≡ ns

-- All bytes are records of some messages, followed by a rest that does not start with a record.
abbrev pub SomeRecordStream : Type 0
SomeRecordStream = (limits : FrameLimits) (bytes : List ℕ)
    → (messages : List (Side × List ℕ)) × (rest : List ℕ) × RecordStream limits bytes messages rest

-- They are so in only one way.
abbrev pub OneRecordStream : Type 0
OneRecordStream =
    (limits : FrameLimits) (bytes : List ℕ) (ms ns : List (Side × List ℕ)) (r s : List ℕ)
    → RecordStream limits bytes ms r → RecordStream limits bytes ns s → (ms ≡ ns) × (r ≡ s)

-- The bytes that a reader of records represents are incomplete.
abbrev pub RepresentedIsIncomplete : Type 0
RepresentedIsIncomplete = (reader : RecordReading) (number : ℕ) (bytes : List ℕ)
    → RepresentsRecords reader number bytes → IsOpenRecord (record_limits reader) bytes

-- For any chunks: after all are used, the records that a new reader returned are those of the
-- joined chunks, and the reader represents the rest after them.
abbrev pub AnyRecordPieces : Type 0
AnyRecordPieces =
    (first last : RecordReading) (pieces : List (List ℕ)) (messages : List (Side × List ℕ))
    → RepresentsRecords first 1 [] → FeedsRecords first pieces messages [] last
    → (rest : List ℕ) × RecordStream (record_limits first) (concat pieces) messages rest
    × RepresentsRecords last (number_behind messages) rest

-- For any chunks: if a call returns an error of the format, the records returned before are those
-- of the joined chunks. The rest after them proves the error, whose number is that of the next
-- record.
abbrev pub FaultInAnyRecordPieces : Type 0
FaultInAnyRecordPieces =
    (first last new : RecordReading) (piece : List ℕ) (pieces left : List (List ℕ))
    (messages : List (Side × List ℕ)) (fault : RecordFault)
    → RepresentsRecords first 1 [] → FeedsRecords first pieces messages (piece ∷ left) last
    → IsRecordCall last piece (Err fault) new
    → fault.cause ≢ Memory
    → (rest : List ℕ) × (i : ℕ) × RecordStream (record_limits first) (concat pieces) messages rest
    × ShowsFault (record_limits first) rest fault.cause i × (fault.number ≡ number_behind messages)
    × HasFailedAt new fault

-- Bytes start with at most one piece.
abbrev pub OnePiece : Type 0
OnePiece = (f g y z : List ℕ) (s t : Side) (a b : List ℕ)
    → f ++ y ≡ g ++ z → IsPiece f s a → IsPiece g t b → (f ≡ g) × (s ≡ t) × (a ≡ b)

-- The empty byte string is not a piece. A piece without raw bytes is not empty.
abbrev pub NoEmptyPiece : Type 0
NoEmptyPiece = (side : Side) (raw : List ℕ) → IsPiece [] side raw → ⊥

-- Bytes prove at most one error of a trace, at one byte.
abbrev pub OneTraceCause : Type 0
OneTraceCause = (bytes : List ℕ) (e f : TraceCause) (i j : ℕ)
    → ShowsTraceFault bytes e i → ShowsTraceFault bytes f j → (e ≡ f) × (i ≡ j)

-- The byte that proves an error of a trace is one of the bytes, counted from 1.
abbrev pub TraceShownWithin : Type 0
TraceShownWithin = (bytes : List ℕ) (cause : TraceCause) (i : ℕ)
    → ShowsTraceFault bytes cause i → (0 < i) × (i ≤ length bytes)

-- An error of a trace remains if more bytes follow.
abbrev pub TraceShownMore : Type 0
TraceShownMore = (bytes more : List ℕ) (cause : TraceCause) (i : ℕ)
    → ShowsTraceFault bytes cause i → ShowsTraceFault (bytes ++ more) cause i

-- An error of a trace does not depend on bytes after the one that proves it.
abbrev pub TraceShownFront : Type 0
TraceShownFront = (bytes more : List ℕ) (cause : TraceCause) (i : ℕ)
    → ShowsTraceFault (bytes ++ more) cause i → i ≤ length bytes → ShowsTraceFault bytes cause i

-- An error of a trace is proved by a byte after incomplete bytes.
abbrev pub TraceShownLater : Type 0
TraceShownLater = (bytes more : List ℕ) (cause : TraceCause) (i : ℕ)
    → IsOpenPiece bytes → ShowsTraceFault (bytes ++ more) cause i → length bytes < i

-- Bytes that start with a piece prove no error.
abbrev pub PieceNotFaulty : Type 0
PieceNotFaulty = (front more : List ℕ) (side : Side) (raw : List ℕ) (cause : TraceCause) (i : ℕ)
    → IsPiece front side raw → ShowsTraceFault (front ++ more) cause i → ⊥

-- Bytes that start with a piece are not incomplete.
abbrev pub PieceNotOpen : Type 0
PieceNotOpen = (front more : List ℕ) (side : Side) (raw : List ℕ)
    → IsPiece front side raw → IsOpenPiece (front ++ more) → ⊥

-- Incomplete bytes prove no error of a trace.
abbrev pub OpenPieceNotFaulty : Type 0
OpenPieceNotFaulty = (bytes : List ℕ) (cause : TraceCause) (i : ℕ)
    → IsOpenPiece bytes → ShowsTraceFault bytes cause i → ⊥

-- Every byte string starts with a piece, proves an error of a trace, or is incomplete.
abbrev pub SomeTraceOutcome : Type 0
SomeTraceOutcome = (bytes : List ℕ)
    → HasPiece bytes
    ⊎ (((cause : TraceCause) × (i : ℕ) × ShowsTraceFault bytes cause i) ⊎ IsOpenPiece bytes)

-- The bytes that a reader of traces represents are incomplete.
abbrev pub RepresentedPieceIsIncomplete : Type 0
RepresentedPieceIsIncomplete = (reader : TraceReading) (piece : ℕ) (bytes raw : List ℕ)
    → RepresentsPiece reader piece bytes raw → IsOpenPiece bytes

-- For any pieces of the trace: the text of a new recorder has the records of the consumed bytes, in
-- the order of the bytes that end their frames.
abbrev pub AnyTracePieces : Type 0
AnyTracePieces = (first last : RecorderReading) (pieces left : List (Side × List ℕ))
    → RepresentsRests first (λ side. []) → Records first pieces left last
    → RecordedSoFar first last pieces left

-- For any inputs: the runs that a new reader of traces returned are those of the pieces in the
-- consumed bytes.
abbrev pub AnyTraceInputs : Type 0
AnyTraceInputs = (first last : TraceReading) (inputs left : List (List ℕ)) (runs : List Run)
    → RepresentsPiece first 1 [] [] → FeedsTrace first inputs runs left last
    → ReadSoFar last inputs left runs

-- For any inputs: if a call returns an error, the joined inputs are some pieces and a rest that
-- proves the error. Its number is that of the next piece.
abbrev pub FaultInAnyTraceInputs : Type 0
FaultInAnyTraceInputs =
    (first last new : TraceReading) (input : List ℕ) (inputs left : List (List ℕ)) (runs : List Run)
    (fault : TraceFault)
    → RepresentsPiece first 1 [] [] → FeedsTrace first inputs runs (input ∷ left) last
    → IsTraceCall last input (Err fault) new
    → (pieces : List (Side × List ℕ)) × (rest : List ℕ) × (i : ℕ)
    × PieceStream (concat inputs) pieces rest
    × ShowsTraceFault rest fault.cause i × (fault.piece ≡ number_behind pieces)
    × HasFailedAtPiece new fault

-- All bytes are some pieces, followed by a rest that does not start with a piece.
abbrev pub SomePieceStream : Type 0
SomePieceStream = (bytes : List ℕ)
    → (pieces : List (Side × List ℕ)) × (rest : List ℕ) × PieceStream bytes pieces rest

-- They are so in only one way.
abbrev pub OnePieceStream : Type 0
OnePieceStream = (bytes : List ℕ) (ps qs : List (Side × List ℕ)) (r s : List ℕ)
    → PieceStream bytes ps r → PieceStream bytes qs s → (ps ≡ qs) × (r ≡ s)

-- The bytes of a trace are recorded in at most one way.
abbrev pub OneRecorded : Type 0
OneRecorded =
    (limits : FrameLimits) (bytes : List (Side × ℕ)) (ms ns : List (Side × List ℕ)) (r q : Side
    → List ℕ)
    → AreRecorded limits bytes ms r → AreRecorded limits bytes ns q → ms ≡ ns
