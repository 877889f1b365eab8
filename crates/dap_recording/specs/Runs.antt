-- Runs of raw bytes, and the pieces whose concatenations they are.
use Rattle.std.specs.Prelude.{◌≡◌, ◌≢◌, ℕ, ◌⊎◌, List, [], ◌∷◌, ◌++◌}
use Rattle.std.specs.List.{concat, flat_map, AllByRecursion}
use Rattle.dap_tree.specs.declared.side.Side.{Side}
use Rattle.dap_recording.specs.Marker.{marker}
use Rattle.dap_recording.specs.RecordReading.{number_behind}
use Rattle.dap_recording.specs.Trace.{IsTrace}
use Rattle.dap_recording.specs.TraceReading.{TraceReading, RepresentsPiece}
use Rattle.dap_recording.specs.Feeding.{Run}

-- The runs have this number and side, no run is empty, and their concatenation is these bytes.
pub record AreRunsOf (number : ℕ) (side : Side) (raw : List ℕ) (runs : List Run) : Type 0 where
  pub each : AllByRecursion (λ run. (run.piece ≡ number) × (run.side ≡ side)
      × (run.bytes ≢ [])) runs
  pub joined : flat_map (λ run. run.bytes) runs ≡ raw

-- The runs of a complete piece (own): those of its raw bytes, or one empty run if it has no raw
-- bytes.
abbrev pub AreRunsOfPiece : ℕ → Side → List ℕ → List Run → Type 0
AreRunsOfPiece number side raw runs =
    ((raw ≢ []) × AreRunsOf number side raw runs)
    ⊎ ((raw ≡ []) × (runs ≡ record { piece = number; side = side; bytes = [] } ∷ []))

-- The runs are those of these pieces, in order. The pieces are numbered after those before.
abbrev pub AreRunsOfPieces : List (Side × List ℕ) → List Run → List (Side × List ℕ) → Type 0
AreRunsOfPieces before runs [] = runs ≡ []
AreRunsOfPieces before runs (piece ∷ pieces) =
    (mine : List Run) × (others : List Run) × (runs ≡ mine ++ others)
    × AreRunsOfPiece (number_behind before) piece.0 piece.1 mine
    × AreRunsOfPieces (before ++ piece ∷ []) others pieces

-- All inputs except the remaining ones have been consumed. They are complete pieces and bytes of
-- the next one, which the reader represents. The runs are those of the pieces, followed by those of
-- the next one.
pub record ReadSoFar (reader : TraceReading) (inputs left : List (List ℕ)) (runs : List Run) : Type
    0 where
  pub front : List ℕ
  pub pieces : List (Side × List ℕ)
  pub trace : IsTrace front pieces
  pub rest : List ℕ
  pub raw : List ℕ
  pub bytes_are : concat inputs ≡ front ++ (rest ++ concat left)
  pub represents : RepresentsPiece reader (number_behind pieces) rest raw
  pub whole_runs : List Run
  pub last_runs : List Run
  pub runs_are : runs ≡ whole_runs ++ last_runs
  pub of_pieces : AreRunsOfPieces [] whole_runs pieces
  pub side : Side
  pub of_last : AreRunsOf (number_behind pieces) side raw last_runs
  pub begins : (last_runs ≡ []) ⊎ ((more : List ℕ) × (rest ≡ marker side ∷ more))
