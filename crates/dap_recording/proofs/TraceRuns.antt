-- Calls of a reader of traces over any inputs return the runs of the pieces in the inputs.
use Rattle.std.proofs.Common.{◌≡◌, ◌≢◌, ℕ, ◌<◌, ◌≤◌, ◌⊎◌, inl, inr, List, [], ◌∷◌, ◌++◌, length}
use Rattle.std.proofs.Common.{take, drop, Option, Some, None, MatchOption, Err, refl, sym, ap, ◌∙◌}
use Rattle.std.proofs.Common.{subst, arith}
use Rattle.std.specs.List.{concat, flat_map, AllByRecursion}
use Rattle.std.proofs.lemmas.List.{append_assoc, append-nil, take-append-drop, length-append}
use Rattle.std.proofs.lemmas.List.{length-drop, nil_from_length}
use Rattle.std.proofs.lemmas.List.Concat.{flat_map-append}
use Rattle.dap_frame.proofs.ItemStreams.{items_append, one_item_alone, faulty_stream}
use Rattle.dap_frame.specs.ItemFeeding.{begun, next_piece, fed_on, refused}
use Rattle.dap_recording.proofs.TracePieces.{piece_grammar}
use Rattle.dap_recording.specs.declared.trace_fault.TraceFault.{TraceFault}
use Rattle.dap_tree.specs.declared.side.Side.{Side}
use Rattle.dap_tree.specs.declared.side.Side.TheVariants.{Client}
use Rattle.dap_recording.specs.declared.fed_trace.TracePart.{TracePart}
use Rattle.dap_recording.specs.Marker.{marker}
use Rattle.dap_recording.specs.RecordReading.{next_number, number_behind}
use Rattle.dap_recording.specs.Trace.{IsPiece, PieceStream, ShowsTraceFault, pieces_of}
use Rattle.dap_recording.specs.TraceReading.{TraceReading, RepresentsPiece, HasFailedAtPiece}
use Rattle.dap_recording.specs.TraceReading.{GivesRun}
use Rattle.dap_recording.specs.Feeding.{Run, run_in, FeedsTrace, IsTraceCall}
use Rattle.dap_recording.specs.Runs.{AreRunsOf, AreRunsOfPiece, AreRunsOfPieces, ReadSoFar}
use Rattle.dap_recording.proofs.Fronts.{heads}
use Rattle.dap_recording.proofs.Markers.{marker_one}

runs_push : (before : List (Side × List ℕ)) (runs mine : List Run) (pieces : List (Side × List ℕ))
    (side : Side) (raw : List ℕ)
    → AreRunsOfPieces before runs pieces
    → AreRunsOfPiece (number_behind (before ++ pieces)) side raw mine
    → AreRunsOfPieces before (runs ++ mine) (pieces ++ (side, raw) ∷ [])
runs_push before runs mine [] side raw none is = (
  mine,
  [],
  ap (λ xs. xs ++ mine) none ∙ sym (append-nil mine),
  subst (λ ps. AreRunsOfPiece (number_behind ps) side raw mine) (append-nil before) is,
  refl,
)
runs_push before runs mine (p ∷ pieces) side raw all is = (
  all.0,
  all.1 ++ mine,
  ap (λ xs. xs ++ mine) all.2 ∙ append_assoc all.0 all.1 mine,
  all.3,
  runs_push (before ++ p ∷ []) all.1 mine pieces side raw all.4
      (subst (λ ps. AreRunsOfPiece (number_behind ps) side raw mine)
      (sym (append_assoc before (p ∷ []) pieces)) is),
)

all_push : (P : Run → Type 0) (runs : List Run) (run : Run) → AllByRecursion P runs → P run
    → AllByRecursion P (runs ++ run ∷ [])
all_push P [] run all is = (is, tt)
all_push P (r ∷ runs) run all is = (all.0, all_push P runs run all.1 is)

-- if the concatenation of non-empty runs is empty, there are no runs
no_runs : (number : ℕ) (side : Side) (runs : List Run) → AreRunsOf number side [] runs → runs ≡ []
no_runs number side [] are = refl
no_runs number side (run ∷ runs) are =
    absurd (are.each.0.2 (front run.bytes (flat_map (λ r. r.bytes) runs) are.joined))
  where
    front : (xs ys : List ℕ) → xs ++ ys ≡ [] → xs ≡ []
    front [] ys e = refl
    front (x ∷ xs) ys e = absurd (let f : ⊥ = cc in f)

-- one more run at the end
run_push : (number : ℕ) (side : Side) (raw bytes : List ℕ) (runs : List Run)
    → AreRunsOf number side raw runs → bytes ≢ []
    → AreRunsOf number side (raw ++ bytes) (runs
    ++ record { piece = number; side = side; bytes = bytes } ∷ [])
run_push number side raw bytes runs are some = record {
  each = all_push (λ run. (run.piece ≡ number) × (run.side ≡ side)
      × (run.bytes ≢ [])) runs _ are.each (refl, refl, some);
  joined = flat_map-append (λ (run : Run). run.bytes) runs
      (record { piece = number; side = side; bytes = bytes } ∷ [])
      ∙ ap (λ xs. xs ++ (bytes ++ [])) are.joined ∙ ap (λ xs. raw ++ xs) (append-nil bytes);
}

-- the run that ends its piece
last_run : (number : ℕ) (side : Side) (raw bytes : List ℕ) (runs : List Run)
    → AreRunsOf number side raw runs → (bytes ≡ [] → raw ≡ [])
    → AreRunsOfPiece number side (raw ++ bytes) (runs
    ++ record { piece = number; side = side; bytes = bytes } ∷ [])
last_run number side raw [] runs are some =
    let none : raw ≡ [] = some refl in
    let no_more : runs ≡ [] =
    no_runs number side runs (subst (λ xs. AreRunsOf number side xs runs) none are) in
    inr (
      append-nil raw
          ∙ none,
      ap (λ rs. rs ++ record { piece = number; side = side; bytes = [] } ∷ []) no_more,
    )
last_run number side raw (b ∷ bytes) runs are some =
    inl (
      λ e. not_nothing raw e,
      run_push number side raw (b ∷ bytes) runs are (λ e. (let f : ⊥ = cc in f)),
    )
  where
    not_nothing : (xs : List ℕ) → xs ++ b ∷ bytes ≡ [] → ⊥
    not_nothing [] e = cc
    not_nothing (x ∷ xs) e = cc

-- the side of the runs so far is that of the piece's marker
same_side : (number : ℕ) (s t : Side) (raw rest input more : List ℕ) (runs : List Run)
    → AreRunsOf number s raw runs
    → (runs ≡ []) ⊎ ((m : List ℕ) × (rest ≡ marker s ∷ m)) → rest ++ input ≡ marker t ∷ more
    → AreRunsOf number t raw runs
same_side number s t raw rest input more runs are (inl none) begins =
    let joined : flat_map (λ (run : Run). run.bytes) runs ≡ [] =
    ap (flat_map (λ (run : Run). run.bytes)) none in
    subst (AreRunsOf number t raw) (sym none)
    (record { each = tt; joined = sym joined ∙ are.joined })
same_side number s t raw rest input more runs are (inr its) begins =
    let same = heads (marker s) (marker t) (its.0 ++ input) more (sym (ap (λ xs. xs ++ input) its.1)
    ∙ begins) in
    subst (λ u. AreRunsOf number u raw runs) (marker_one s t same.0) are

module _ (reader new : TraceReading) (inputs left : List (List ℕ)) (input : List ℕ)
    (runs : List Run) (used : ℕ)
    (was : ReadSoFar reader inputs (input ∷ left) runs) (within : used ≤ length input) where
  -- no run was returned
  no_run : used ≡ length input
      → RepresentsPiece new (number_behind was.pieces) (was.rest ++ input) was.raw
      → ReadSoFar new inputs (drop used input ∷ left) (runs ++ [])
  no_run all represents =
      let over : drop used input ≡ [] =
      nil_from_length (drop used input) (omega (arith, all, length-drop used input)) in
      record {
        front = was.front;
        pieces = was.pieces;
        trace = was.trace;
        rest = was.rest ++ input;
        raw = was.raw;
        bytes_are =
            was.bytes_are
            ∙ ap (λ xs. was.front ++ xs) (sym (append_assoc was.rest input (concat left))
            ∙ ap (λ xs. (was.rest ++ input) ++ (xs ++ concat left)) (sym over));
        represents = represents;
        whole_runs = was.whole_runs;
        last_runs = was.last_runs;
        runs_are = append-nil runs ∙ was.runs_are;
        of_pieces = was.of_pieces;
        side = was.side;
        of_last = was.of_last;
        begins = elim was.begins [
          | inl none ↦ inl none
          | inr its ↦ inr (its.0 ++ input, ap (λ xs. xs ++ input) its.1)
        ];
      }

  module _ (side : Side) (run : List ℕ)
      (gives : GivesRun (number_behind was.pieces) was.rest was.raw input used side run new) where
    of_side : AreRunsOf (number_behind was.pieces) side was.raw was.last_runs
    of_side = same_side (number_behind was.pieces) was.side side was.raw was.rest input
        gives.begins.0 was.last_runs was.of_last was.begins gives.begins.1

    ends_piece : IsPiece (was.rest ++ take used input) side (was.raw ++ run)
        → RepresentsPiece new (next_number (number_behind was.pieces)) [] []
        → ReadSoFar new inputs (drop used input ∷ left) (runs
        ++ record { piece = number_behind was.pieces; side = side; bytes = run } ∷ [])
    ends_piece is represents =
        let last : List ℕ = was.rest ++ take used input in
        let parts : input ++ concat left ≡ take used input ++ (drop used input ++ concat left) =
        ap (λ xs. xs ++ concat left) (sym (take-append-drop used input))
        ∙ append_assoc (take used input) (drop used input) (concat left) in
        let number : next_number (number_behind was.pieces)
        ≡ number_behind (was.pieces ++ (side, was.raw ++ run) ∷ []) =
        omega (arith, length-append was.pieces ((side, was.raw ++ run) ∷ [])) in
        record {
          front = was.front ++ last;
          pieces = was.pieces ++ (side, was.raw ++ run) ∷ [];
          trace = items_append pieces_of was.front last was.pieces ((side, was.raw ++ run) ∷ [])
              was.trace (one_item_alone pieces_of last (side, was.raw ++ run) is);
          rest = [];
          raw = [];
          bytes_are = was.bytes_are
              ∙ ap (λ xs. was.front ++ xs) (ap (λ xs. was.rest ++ xs) parts
              ∙ sym (append_assoc was.rest (take used input) (drop used input ++ concat left)))
              ∙ sym (append_assoc was.front last (drop used input ++ concat left));
          represents = subst (λ n. RepresentsPiece new n [] []) number represents;
          whole_runs =
              was.whole_runs
              ++ (was.last_runs
              ++ record { piece = number_behind was.pieces; side = side; bytes = run } ∷ []);
          last_runs = [];
          runs_are = ap (λ xs. xs
              ++ record { piece = number_behind was.pieces; side = side; bytes = run } ∷ [])
              was.runs_are
              ∙ append_assoc was.whole_runs was.last_runs
              (record { piece = number_behind was.pieces; side = side; bytes = run } ∷ [])
              ∙ sym (append-nil (was.whole_runs
              ++ (was.last_runs
              ++ record { piece = number_behind was.pieces; side = side; bytes = run } ∷ [])));
          of_pieces =
              runs_push [] was.whole_runs (was.last_runs
              ++ record { piece = number_behind was.pieces; side = side; bytes = run } ∷ [])
              was.pieces side (was.raw ++ run) was.of_pieces
              (last_run (number_behind was.pieces) side was.raw run was.last_runs of_side
              gives.some);
          side = Client;
          of_last = record { each = tt; joined = refl };
          begins = inl refl;
        }

    goes_on : used ≡ length input → 0 < length run
        → RepresentsPiece new (number_behind was.pieces) (was.rest ++ input) (was.raw ++ run)
        → ReadSoFar new inputs (drop used input ∷ left) (runs
        ++ record { piece = number_behind was.pieces; side = side; bytes = run } ∷ [])
    goes_on all some represents =
        let over : drop used input ≡ [] =
        nil_from_length (drop used input) (omega (arith, all, length-drop used input)) in
        record {
          front = was.front;
          pieces = was.pieces;
          trace = was.trace;
          rest = was.rest ++ input;
          raw = was.raw ++ run;
          bytes_are =
              was.bytes_are
              ∙ ap (λ xs. was.front ++ xs) (sym (append_assoc was.rest input (concat left))
              ∙ ap (λ xs. (was.rest ++ input) ++ (xs ++ concat left)) (sym over));
          represents = represents;
          whole_runs = was.whole_runs;
          last_runs =
              was.last_runs ++ record { piece = number_behind was.pieces; side = side; bytes = run }
              ∷ [];
          runs_are = ap (λ xs. xs
              ++ record { piece = number_behind was.pieces; side = side; bytes = run } ∷ [])
              was.runs_are
              ∙ append_assoc was.whole_runs was.last_runs
              (record { piece = number_behind was.pieces; side = side; bytes = run } ∷ []);
          of_pieces = was.of_pieces;
          side = side;
          of_last = run_push (number_behind was.pieces) side was.raw run was.last_runs of_side
              (λ e. omega (arith, ap length e));
          begins = inr gives.begins;
        }

  some_run : (part : TracePart) → part.piece ≡ number_behind was.pieces
      → GivesRun (number_behind was.pieces) was.rest was.raw input used part.side part.bytes.now new
      → ReadSoFar new inputs (drop used input ∷ left) (runs ++ run_in (Some part))
  some_run part number gives =
      subst (λ n. ReadSoFar new inputs (drop used input ∷ left) (runs
      ++ record { piece = n; side = part.side; bytes = part.bytes.now } ∷ [])) (sym number)
      (elim gives.next [
        | inl ended ↦ ends_piece part.side part.bytes.now gives ended.0 ended.1
        | inr on ↦ goes_on part.side part.bytes.now gives on.0 on.1 on.2
      ])

  fed : (part : Option TracePart) → MatchOption part
      ((used ≡ length input)
      × RepresentsPiece new (number_behind was.pieces) (was.rest ++ input) was.raw)
      (λ p. (p.piece ≡ number_behind was.pieces)
      × GivesRun (number_behind was.pieces) was.rest was.raw input used p.side p.bytes.now new)
      → ReadSoFar new inputs (drop used input ∷ left) (runs ++ run_in part)
  fed None gives = no_run gives.0 gives.1
  fed (Some part) gives = some_run part gives.0 gives.1

read_so_far : (first : TraceReading) (inputs : List (List ℕ)) (runs : List Run)
    (left : List (List ℕ)) (last : TraceReading)
    → RepresentsPiece first 1 [] [] → FeedsTrace first inputs runs left last
    → ReadSoFar last inputs left runs
read_so_far first inputs _ _ _ represents begun = record {
  front = [];
  pieces = [];
  trace = refl;
  rest = [];
  raw = [];
  bytes_are = refl;
  represents = represents;
  whole_runs = [];
  last_runs = [];
  runs_are = refl;
  of_pieces = refl;
  side = Client;
  of_last = record { each = tt; joined = refl };
  begins = inl refl;
}
read_so_far first inputs runs left last represents (next_piece feeds) =
    let was = read_so_far first inputs runs ([] ∷ left) last represents feeds in
    record {
      front = was.front;
      pieces = was.pieces;
      trace = was.trace;
      rest = was.rest;
      raw = was.raw;
      bytes_are = was.bytes_are;
      represents = was.represents;
      whole_runs = was.whole_runs;
      last_runs = was.last_runs;
      runs_are = was.runs_are;
      of_pieces = was.of_pieces;
      side = was.side;
      of_last = was.of_last;
      begins = was.begins;
    }
read_so_far first inputs _ _ new represents
    (fed_on {values = runs} {left = left} {state = reader} input given feeds call) =
    let was = read_so_far first inputs runs (input ∷ left) reader represents feeds in
    let gives = call.gives (number_behind was.pieces) was.rest was.raw was.represents in
    fed reader new inputs left input runs given.used was gives.0 given.part gives.1
read_so_far first inputs runs _ last represents (refused input feeds never) = absurd never

pub any_inputs : (first last : TraceReading) (inputs left : List (List ℕ)) (runs : List Run)
    → RepresentsPiece first 1 [] []
    → FeedsTrace first inputs runs left last → ReadSoFar last inputs left runs
any_inputs first last inputs left runs = read_so_far first inputs runs left last

pub fault_in_any_inputs : (first last new : TraceReading) (input : List ℕ)
    (inputs left : List (List ℕ)) (runs : List Run) (fault : TraceFault)
    → RepresentsPiece first 1 [] [] → FeedsTrace first inputs runs (input ∷ left) last
    → IsTraceCall last input (Err fault) new
    → (pieces : List (Side × List ℕ)) × (rest : List ℕ) × (i : ℕ)
    × PieceStream (concat inputs) pieces rest
    × ShowsTraceFault rest fault.cause i × (fault.piece ≡ number_behind pieces)
    × HasFailedAtPiece new fault
fault_in_any_inputs first last new input inputs left runs fault represents feeds call =
    let was = read_so_far first inputs runs (input ∷ left) last represents feeds in
    let given = call.gives (number_behind was.pieces) was.rest was.raw was.represents in
    let read = faulty_stream piece_grammar (concat inputs) was.front was.rest input (concat left)
    was.pieces fault.cause given.shown.0 was.trace was.bytes_are given.shown.1 in
    (was.pieces, read.0, given.shown.0, read.1, read.2, given.piece_is, given.failed)
