-- What `record` writes for a trace, and which traces it rejects. Source: own, based on the frames
-- of the DAP base protocol. A trace is a sequence of complete pieces and a rest, which may still
-- become a piece. The bytes that the two sides sent in it are complete frames and a rest for each
-- side, which may still become a frame.
use Rattle.std.specs.Prelude.{◌≡◌, ◌≢◌, ◌⊎◌, ℕ, ◌+◌, ◌<◌, ◌≤◌, List, [], ◌∷◌, ◌++◌, length, map}
use Rattle.dap_frame.specs.declared.fault.FrameFault.{FrameFault}
use Rattle.dap_frame.specs.declared.fault.FrameFault.TheVariants.{Cut}
use Rattle.dap_frame.specs.{declared.limits.FrameLimits.FrameLimits, Frame.{IsOpen, FailsAt}}
use Rattle.dap_frame.specs.Lines.{number_of}
use Rattle.dap_recording.specs.declared.recorder_fault.RecorderFault.TheVariants.{Frame}
use Rattle.dap_recording.specs.declared.trace_fault.TraceCause.{TraceCause}
use Rattle.dap_recording.specs.declared.trace_fault.TraceCause.TheVariants as trace_cause
use Rattle.dap_recording.specs.{Marker.marker, OneSide.WantsMemory}
use Rattle.dap_recording.specs.RecordedTraces.{AreRecorded, bytes_of}
use Rattle.dap_recording.specs.Trace.{IsCount, IsTrace, ShowsTraceFault}
use Rattle.dap_tree.specs.declared.side.Side.{Side}
use Rattle.dap_tree.specs.declared.side.Side.TheVariants.{Client, Adapter}
use Rattle.dap_input.specs.{declared.limits.Limits.Limits, declared.refused.Refused.Refused}
use Rattle.dap_input.specs.declared.refused.Refused.TheVariants.{TraceTooLong, Trace, Recorder}
use Rattle.dap_input.specs.Limits.{AreSound}

-- Each byte, paired with the side that sent it.
abbrev pub sent_by : Side → List ℕ → List (Side × ℕ)
sent_by side bytes = map (λ byte. (side, byte)) bytes

-- The rest is an incomplete piece whose count has ended. The raw bytes of its side received so far
-- are `raw`, and more raw bytes must follow.
pub record IsInRaw (rest : List ℕ) (side : Side) (raw : List ℕ) : Type 0 where
  pub text : List ℕ
  pub rest_is : rest ≡ (marker side ∷ text) ++ 10 ∷ raw
  pub is_count : IsCount text
  pub to_come : length raw < number_of text

-- The rest may still become a piece, and the second argument lists its raw bytes with their side.
-- The list is empty until the count has ended.
pub data IsOpenWith (rest : List ℕ) : List (Side × ℕ) → Type 0 where
  before_marker : rest ≡ [] → IsOpenWith rest []
  in_count : (side : Side) (text : List ℕ) → rest ≡ marker side ∷ text → (text ≡ []) ⊎ IsCount text
      → IsOpenWith rest []
  in_raw : (side : Side) (raw : List ℕ) → IsInRaw rest side raw → IsOpenWith rest (sent_by side raw)

-- These bytes of a trace contain no error: they are complete pieces and a rest. The bytes that each
-- side sent in them are complete frames and a rest. The messages are in the order of the bytes that
-- end their frames.
pub record SoFar (limits : FrameLimits) (bytes : List ℕ) : Type 0 where
  pub front : List ℕ
  pub pieces : List (Side × List ℕ)
  pub trace : IsTrace front pieces
  pub rest : List ℕ
  pub split : bytes ≡ front ++ rest
  pub raw : List (Side × ℕ)
  pub of_rest : IsOpenWith rest raw
  pub messages : List (Side × List ℕ)
  pub rests : Side → List ℕ
  pub recorded : AreRecorded limits (bytes_of pieces ++ raw) messages rests
  pub are_open : (side : Side) → IsOpen limits (rests side)

-- A prefix of the bytes contains no error. The raw bytes of a side that follow it require an
-- allocation, because they contain a byte of a content or the end of a frame.
pub record TakesMemory (limits : FrameLimits) (bytes : List ℕ) : Type 0 where
  pub front : List ℕ
  pub so_far : SoFar limits front
  pub side : Side
  pub raw : List ℕ
  pub in_raw : IsInRaw so_far.rest side raw
  pub run : List ℕ
  pub more : List ℕ
  pub split : bytes ≡ front ++ (run ++ more)
  pub of_piece : length (raw ++ run) ≤ number_of in_raw.text
  pub wants : WantsMemory limits (so_far.rests side) run

-- The trace is a sequence of complete pieces within the limit. The bytes that the two sides sent in
-- it are complete frames with these messages.
pub record IsRecordedAs (limits : Limits) (bytes : List ℕ) (messages : List (Side × List ℕ)) : Type
    0 where
  pub short : length bytes ≤ limits.input
  pub pieces : List (Side × List ℕ)
  pub trace : IsTrace bytes pieces
  pub recorded : AreRecorded limits.frame (bytes_of pieces) messages (λ side. [])

-- The number of the piece that the rest starts. Pieces are numbered from 1.
abbrev pub next_piece : {limits : FrameLimits} {bytes : List ℕ} → SoFar limits bytes → ℕ
next_piece so_far = length so_far.pieces + 1

-- This byte, received next, proves an error: as a byte of a piece's marker or count, or as a raw
-- byte in a frame of its side.
pub data ByteShows {limits : FrameLimits} {bytes : List ℕ} (so_far : SoFar limits bytes)
    (byte : ℕ) : Refused → Type 0 where
  of_piece : (cause : TraceCause) {place : ℕ}
      → ShowsTraceFault (so_far.rest ++ byte ∷ []) cause place
      → ByteShows so_far byte (Trace (next_piece so_far) cause)
  of_frame : (side : Side) (raw : List ℕ) (fault : FrameFault) {place : ℕ}
      → IsInRaw so_far.rest side raw → FailsAt limits (so_far.rests side ++ byte ∷ []) fault place
      → ByteShows so_far byte (Recorder (next_piece so_far) (Frame side fault))

-- The trace ends inside a piece; otherwise, after its last piece, inside a frame of the client;
-- otherwise inside a frame of the adapter.
pub data EndsInside {limits : FrameLimits} {bytes : List ℕ} (so_far : SoFar limits bytes) : Refused
    → Type 0 where
  a_piece : so_far.rest ≢ [] → EndsInside so_far (Trace (next_piece so_far) trace_cause.Cut)
  a_client_frame : so_far.rest ≡ [] → so_far.rests Client ≢ []
      → EndsInside so_far (Recorder (length so_far.pieces) (Frame Client Cut))
  an_adapter_frame : so_far.rest ≡ [] → so_far.rests Client ≡ [] → so_far.rests Adapter ≢ []
      → EndsInside so_far (Recorder (length so_far.pieces) (Frame Adapter Cut))

-- The trace is rejected for this reason, after the frames with these messages ended: a byte within
-- the limit proves an error, or there is a byte past the limit, or the trace ends inside a piece or
-- a frame. The bytes after that byte do not matter.
pub data IsTraceRefused (limits : Limits) (bytes : List ℕ) : Refused → List (Side × List ℕ)
    → Type 0 where
  at_byte : (front : List ℕ) (byte : ℕ) (more : List ℕ) {refused : Refused}
      → bytes ≡ front ++ byte ∷ more → length front < limits.input
      → (so_far : SoFar limits.frame front) → ByteShows so_far byte refused
      → IsTraceRefused limits bytes refused so_far.messages
  past_limit : (front : List ℕ) (byte : ℕ) (more : List ℕ) → bytes ≡ front ++ byte ∷ more
      → length front ≡ limits.input
      → (so_far : SoFar limits.frame front)
      → IsTraceRefused limits bytes (TraceTooLong (next_piece so_far)) so_far.messages
  at_end : {refused : Refused} → length bytes ≤ limits.input
      → (so_far : SoFar limits.frame bytes) → EndsInside so_far refused
      → IsTraceRefused limits bytes refused so_far.messages

-- The trace is rejected only because it is incomplete.
abbrev pub IsOfEnd : Refused → Type 0
IsOfEnd (Trace n trace_cause.Cut) = Unit {0}
IsOfEnd (Recorder n (Frame side Cut)) = Unit {0}
IsOfEnd _ = ⊥

-- A trace is recorded as exactly one list of messages, or rejected for exactly one reason after
-- exactly one list of messages, never both.
pub record TraceHasOneOutcome (limits : Limits) : Type 0 where
  pub some : (bytes : List ℕ)
      → ((messages : List (Side × List ℕ)) × IsRecordedAs limits bytes messages)
      ⊎ ((refused : Refused) × (messages : List (Side × List ℕ))
      × IsTraceRefused limits bytes refused messages)
  pub one_list : (bytes : List ℕ) (messages others : List (Side × List ℕ))
      → IsRecordedAs limits bytes messages → IsRecordedAs limits bytes others → messages ≡ others
  pub one_refusal : (bytes : List ℕ) (refused because : Refused)
      (messages others : List (Side × List ℕ))
      → IsTraceRefused limits bytes refused messages → IsTraceRefused limits bytes because others
      → (refused ≡ because) × (messages ≡ others)
  pub not_both : (bytes : List ℕ) (messages others : List (Side × List ℕ)) (refused : Refused)
      → IsRecordedAs limits bytes messages → IsTraceRefused limits bytes refused others → ⊥

abbrev pub TracesHaveOneOutcome : Type 0
TracesHaveOneOutcome = (limits : Limits) → AreSound limits → TraceHasOneOutcome limits

-- A rejection remains when more bytes follow, unless the trace is only incomplete.
abbrev pub TraceRefusalStays : Type 0
TraceRefusalStays =
    (limits : Limits) (bytes more : List ℕ) (refused : Refused) (messages : List (Side × List ℕ))
    → (IsOfEnd refused → ⊥) → IsTraceRefused limits bytes refused messages
    → IsTraceRefused limits (bytes ++ more) refused messages
