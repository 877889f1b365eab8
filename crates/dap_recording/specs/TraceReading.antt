-- The number and the bytes that a reader of traces represents to its callers, and the result of a
-- call.
use Rattle.std.specs.Prelude.{◌≡◌, ℕ, ◌+◌, ◌<◌, ◌≤◌, ◌⊎◌, List, [], ◌∷◌, ◌++◌, length, take, Result}
use Rattle.std.specs.Prelude.{Ok, Err, MatchOption}
use Rattle.dap_frame.specs.Lines.{number_of}
use Rattle.dap_tree.specs.declared.side.Side.{Side}
use Rattle.dap_recording.specs.declared.trace_fault.TraceFault.{TraceFault}
use Rattle.dap_recording.specs.declared.fed_trace.FedTrace.{FedTrace}
use Rattle.dap_recording.specs.declared.trace_state.TraceState.{TraceState}
use Rattle.dap_recording.specs.declared.trace_state.TraceState.TheVariants.{Marker, Count, Raw}
use Rattle.dap_recording.specs.declared.trace_state.TraceState.TheVariants.{Failed}
use Rattle.dap_recording.specs.Marker.{marker}
use Rattle.dap_recording.specs.RecordReading.{next_number}
use Rattle.dap_recording.specs.Trace.{IsCount, IsPiece, ShowsTraceFault}
use Rattle.dap_recording.specs.Count.{IsCountOf}

-- The stored state: the progress of the current piece, and its number. Callers need only
-- `HasFailedAtPiece` and `RepresentsPiece`.
pub record TraceReading : Type 0 where
  pub state : TraceState
  pub piece : ℕ

-- After a count of 0, no raw bytes are expected.
abbrev pub HasBytesToCome : TraceState → Type 0
HasBytesToCome Marker = Unit {0}
HasBytesToCome (Count side count) = Unit {0}
HasBytesToCome (Raw side left) = 0 < left
HasBytesToCome (Failed cause) = Unit {0}

-- This error occurred before.
pub record HasFailedAtPiece (reader : TraceReading) (fault : TraceFault) : Type 0 where
  pub state : reader.state ≡ Failed fault.cause
  pub piece : reader.piece ≡ fault.piece

-- The stored state is that of these bytes, received since the last complete piece. `raw` are the
-- raw bytes among them.
abbrev pub IsKeptOfPiece : TraceState → List ℕ → List ℕ → Type 0
IsKeptOfPiece Marker bytes raw = (bytes ≡ []) × (raw ≡ [])
IsKeptOfPiece (Count side count) bytes raw =
    (text : List ℕ) × (bytes ≡ marker side ∷ text) × IsCountOf count text × (raw ≡ [])
IsKeptOfPiece (Raw side left) bytes raw =
    (text : List ℕ) × (bytes ≡ (marker side ∷ text) ++ 10 ∷ raw) × IsCount text
    × (number_of text ≡ length raw + left) × (0 < left)
IsKeptOfPiece (Failed cause) bytes raw = ⊥

-- The reader represents these bytes of the piece with this number, which is incomplete. `raw` are
-- its raw bytes so far.
pub record RepresentsPiece (reader : TraceReading) (piece : ℕ) (bytes raw : List ℕ) : Type 0 where
  pub piece_is : reader.piece ≡ piece
  pub kept : IsKeptOfPiece reader.state bytes raw

-- The returned run has raw bytes of this side's piece. Either its last byte ends the piece, and the
-- reader then represents no bytes of the next one. Or it is the end of the input, and the reader
-- then represents the input too.
pub record GivesRun (piece : ℕ) (bytes raw input : List ℕ) (used : ℕ) (side : Side) (run : List ℕ)
    (new : TraceReading) : Type 0 where
  pub begins : (more : List ℕ) × (bytes ++ input ≡ marker side ∷ more)
  pub some : run ≡ [] → raw ≡ []
  pub next : (IsPiece (bytes ++ take used input) side (raw ++ run)
      × RepresentsPiece new (next_number piece) [] [])
      ⊎ ((used ≡ length input) × (0 < length run)
      × RepresentsPiece new piece (bytes ++ input) (raw ++ run))

-- The effect of a call on a reader that represented these bytes. Either it consumed the whole
-- input, without any raw byte, and then represents both. Or it consumed the bytes up to the end of
-- a run.
abbrev pub GivesFedTrace : ℕ → List ℕ → List ℕ → List ℕ → FedTrace → TraceReading → Type 0
GivesFedTrace piece bytes raw input fed new = (fed.used ≤ length input) × MatchOption fed.part
    ((fed.used ≡ length input) × RepresentsPiece new piece (bytes ++ input) raw)
    (λ part. (part.piece ≡ piece)
    × GivesRun piece bytes raw input fed.used part.side part.bytes.now new)

-- The returned error, which the bytes and the input prove.
pub record GivesTraceFault (piece : ℕ) (bytes input : List ℕ) (fault : TraceFault)
    (new : TraceReading) : Type 0 where
  pub piece_is : fault.piece ≡ piece
  pub shown : (i : ℕ) × ShowsTraceFault (bytes ++ input) fault.cause i
  pub failed : HasFailedAtPiece new fault

-- The result of a call if the reader represented the bytes, and the bytes that it represents then.
abbrev pub GivesTrace : ℕ → List ℕ → List ℕ → List ℕ → Result FedTrace TraceFault → TraceReading
    → Type 0
GivesTrace piece bytes raw input (Ok fed) new = GivesFedTrace piece bytes raw input fed new
GivesTrace piece bytes raw input (Err fault) new = GivesTraceFault piece bytes input fault new
