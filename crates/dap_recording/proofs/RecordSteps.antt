-- The bytes that a reader of records represents after it has read more.
use Rattle.std.proofs.Common.{arith, ◌≡◌, ◌≢◌, ℕ, suc, ◌+◌, ◌<◌, ⊎_elim, List, [], ◌∷◌, ◌++◌}
use Rattle.std.proofs.Common.{length, take, drop, get_or, Ok, Err, refl, sym, ap, ◌∙◌, subst}
use Rattle.std.proofs.lemmas.List.{append_assoc, append-nil, take_more, take-append-drop}
use Rattle.std.proofs.Math.Seq.{drop-cons}
use Rattle.dap_frame.specs.Combinators.{in_first, in_second, first_open, second_open}
use Rattle.dap_frame.specs.declared.limits.FrameLimits.{FrameLimits}
use Rattle.dap_frame.specs.declared.fault.FrameFault.{FrameFault}
use Rattle.dap_frame.specs.declared.fault.FrameFault.TheVariants as frame_fault
use Rattle.dap_frame.specs.Frame.{IsFrame, HasContentByte, FailsAt}
use Rattle.dap_frame.specs.Reading.{Reading, GivesFault, limits_of}
use Rattle.dap_tree.specs.declared.side.Side.{Side}
use Rattle.dap_recording.specs.declared.record_fault.RecordCause.{RecordCause}
use Rattle.dap_recording.specs.declared.record_fault.RecordCause.TheVariants.{BadMarker, Frame}
use Rattle.dap_recording.specs.declared.record_fault.RecordCause.TheVariants.{NoLineEnd, Memory}
use Rattle.dap_recording.specs.declared.record_fault.RecordFault.{RecordFault}
use Rattle.dap_recording.specs.declared.record_state.RecordState.{RecordState}
use Rattle.dap_recording.specs.declared.record_state.RecordState.TheVariants as states
use Rattle.dap_recording.specs.Marker.{marker, IsNoMarker}
use Rattle.dap_recording.specs.Recording.{HasRecord, IsRecord, ShowsFault, IsOpenRecord}
use Rattle.dap_recording.specs.RecordReading.{RecordReading, RepresentsRecords, IsKeptOfRecord}
use Rattle.dap_recording.specs.RecordReading.{HasFailedAt}
use Rattle.dap_recording.specs.RecordReading.{GivesRecordFault, record_limits}
use Rattle.dap_recording.proofs.Fronts.{first_is, split_at, taken_more}
use Rattle.dap_recording.proofs.FramerSteps.{is_memory}
use Rattle.dap_recording.proofs.Markers.{a_marker}
use Rattle.dap_recording.proofs.Records.{ends_line}

abbrev pub reader_at : Reading → RecordState → ℕ → RecordReading
reader_at framer state number = record { framer = framer; state = state; number = number }

pub line_end_no_memory : (cause : RecordCause) → cause ≡ NoLineEnd → cause ≡ Memory → ⊥
line_end_no_memory cause e f = cc

pub marker_no_memory : (cause : RecordCause) → cause ≡ BadMarker → cause ≡ Memory → ⊥
marker_no_memory cause e f = cc

frame_no_memory : (cause : RecordCause) (fault : FrameFault) → cause ≡ Frame fault → cause ≡ Memory
    → ⊥
frame_no_memory cause fault e f = cc

-- the bytes that the reader represents, if its state is known
pub at_state : (reader : RecordReading) (number : ℕ) (bytes : List ℕ) (state : RecordState)
    → reader.state ≡ state
    → RepresentsRecords reader number bytes → IsKeptOfRecord reader.framer state bytes
at_state reader number bytes state e represents =
    subst (λ s. IsKeptOfRecord reader.framer s bytes) e represents.kept

kept_open : (framer : Reading) (state : RecordState) (bytes : List ℕ)
    → IsKeptOfRecord framer state bytes
    → IsOpenRecord (limits_of framer) bytes
kept_open framer states.Marker bytes h = first_open h.0
kept_open framer (states.Frame side) bytes h =
    second_open (marker side ∷ []) h.0 side h.1 (a_marker BadMarker side) (first_open h.2.is_open)
kept_open framer (states.LineEnd whole) bytes h =
    second_open (marker whole.side ∷ []) h.0 whole.side h.1 (a_marker BadMarker whole.side)
    (second_open h.0 [] whole.content (sym (append-nil h.0)) h.2 refl)
kept_open framer (states.Failed cause) bytes h = absurd h

pub represented_is_incomplete : (reader : RecordReading) (number : ℕ) (bytes : List ℕ)
    → RepresentsRecords reader number bytes
    → IsOpenRecord (record_limits reader) bytes
represented_is_incomplete reader number bytes represents = kept_open reader.framer reader.state
    bytes represents.kept

pub bad_marker : (limits : FrameLimits) (bytes piece : List ℕ) → bytes ≡ [] → 0 < length piece
    → IsNoMarker (get_or piece 0 0) → ShowsFault limits (bytes ++ piece) BadMarker 1
bad_marker limits bytes piece none some other =
    record {
      front = get_or piece 0 0 ∷ [];
      more = drop 1 piece;
      bytes_are = ap (λ xs. xs ++ piece) none ∙ first_is piece some;
      ends = in_first BadMarker ([], get_or piece 0 0, refl, refl, (other, refl)) refl;
      place = refl;
    }

module _ (limits : FrameLimits) (bytes piece frame content : List ℕ) (side : Side) (from : ℕ)
    (inside : from < length piece)
    (front : bytes ++ take from piece
    ≡ marker side ∷ frame) (is : IsFrame limits frame content) where
  pub bad_line_end : (get_or piece from 0 ≡ 10 → ⊥)
      → (i : ℕ) × ShowsFault limits (bytes ++ piece) NoLineEnd i
  bad_line_end apart = (
    length ((marker side ∷ frame) ++ get_or piece from 0 ∷ []),
    record {
      front = (marker side ∷ frame) ++ get_or piece from 0 ∷ [];
      more = drop (suc from) piece;
      bytes_are =
          split_at bytes piece (marker side ∷ frame) from front
          ∙ ap (λ xs. (marker side ∷ frame) ++ xs) (drop-cons piece from 0 inside)
          ∙ sym (append_assoc (marker side ∷ frame) (get_or piece from 0 ∷ [])
          (drop (suc from) piece));
      ends = ends_line limits side frame content (get_or piece from 0) (Err NoLineEnd) is
          (apart, refl);
      place = refl;
    },
  )

  pub good_line_end : get_or piece from 0 ≡ 10
      → IsRecord limits (bytes ++ take (from + 1) piece) side content
  good_line_end lf =
      let line : bytes ++ take (from + 1) piece
      ≡ (marker side ∷ frame) ++ get_or piece from 0 ∷ [] =
      ap (λ xs. bytes ++ xs) (take_more piece from 0 inside)
      ∙ sym (append_assoc bytes (take from piece) (get_or piece from 0 ∷ []))
      ∙ ap (λ xs. xs ++ get_or piece from 0 ∷ []) front in
      subst (λ xs. IsRecord limits xs side content) (sym line)
      (ends_line limits side frame content (get_or piece from 0) (Ok (side, content)) is
      (lf, refl))

first_taken : (piece : List ℕ) → 0 < length piece → take 1 piece ≡ get_or piece 0 0 ∷ []
first_taken [] some = absurd (omega arith)
first_taken (x ∷ xs) some = refl

-- a chunk that starts with a marker, a frame and LF
pub record_in : (limits : FrameLimits) (piece content : List ℕ) (side : Side) (used : ℕ)
    → get_or piece 0 0 ≡ marker side → IsFrame limits (take used (drop 1 piece)) content
    → used + 1 < length piece → get_or piece (used + 1) 0 ≡ 10 → HasRecord limits piece
record_in limits piece content side used is frame inside lf =
    let first : take 1 piece ≡ marker side ∷ [] =
    first_taken piece (omega (arith, inside)) ∙ ap (λ b. b ∷ []) is in
    let front : take (used + 1) piece ≡ marker side ∷ take used (drop 1 piece) =
    ap (λ n. take n piece) (let same : used + 1 ≡ 1 + used = omega arith in same)
    ∙ taken_more [] piece (marker side ∷ []) 1 used first in
    record {
      item = take (used + 1 + 1) piece;
      more = drop (used + 1 + 1) piece;
      value = (side, content);
      bytes_are = sym (take-append-drop (used + 1 + 1) piece);
      is_item = good_line_end limits [] piece (take used (drop 1 piece)) content side (used + 1)
          inside front frame lf;
    }

module _ (limits : FrameLimits) (number : ℕ) (bytes piece rest : List ℕ) (side : Side) (from : ℕ)
    (fault : FrameFault) (reported : RecordFault) (old new : RecordReading) (framer : Reading)
    (front : bytes ++ take from piece
    ≡ marker side ∷ rest) (gives : GivesFault limits rest (drop from piece) fault framer)
    (content : fault ≡ frame_fault.Memory → HasContentByte limits (rest ++ drop from piece))
    (some : fault ≡ frame_fault.Memory → 0 < length piece)
    (number_is : reported.number ≡ number)
    (memory : fault ≡ frame_fault.Memory
    → (reported.cause ≡ Memory) × (new ≡ old)) (represents : fault ≡ frame_fault.Memory
    → RepresentsRecords old number bytes)
    (other : fault ≢ frame_fault.Memory → (reported.cause ≡ Frame fault)
    × HasFailedAt new reported) where
  -- a proof of an error of the frame is one of an error of the record
  shown_in_frame : (i : ℕ) → FailsAt limits (rest ++ drop from piece) fault i
      → ShowsFault limits (bytes ++ piece) (Frame fault) (i + 1)
  shown_in_frame i shows = record {
    front = marker side ∷ shows.front;
    more = shows.more;
    bytes_are =
        split_at bytes piece (marker side ∷ rest) from front
        ∙ ap (λ xs. marker side ∷ xs) shows.bytes_are;
    ends = in_second (marker side ∷ []) shows.front side refl (a_marker BadMarker side)
        (in_first fault shows.ends refl);
    place = omega (arith, shows.place);
  }

  pub frame_faults : GivesRecordFault limits number bytes piece reported new
  frame_faults = ⊎_elim
      (λ (e : fault ≡ frame_fault.Memory). record {
        number_is = number_is;
        memory = λ _. subst (λ reader. RepresentsRecords reader number bytes) (sym (memory e).1)
            (represents e);
        for_content = λ _. (
          side,
          rest
              ++ drop from piece,
          split_at bytes piece (marker side ∷ rest) from front,
          content e,
        );
        for_bytes = λ _. some e;
        shown = λ apart. absurd (apart (memory e).0);
        failed = λ apart. absurd (apart (memory e).0);
      })
      (λ (d : fault ≢ frame_fault.Memory). record {
        number_is = number_is;
        memory = λ e. absurd (frame_no_memory reported.cause fault (other d).0 e);
        for_content = λ e. absurd (frame_no_memory reported.cause fault (other d).0 e);
        for_bytes = λ e. absurd (frame_no_memory reported.cause fault (other d).0 e);
        shown = λ _. (
          (gives.shown d).0 + 1,
          subst (λ cause. ShowsFault limits (bytes ++ piece) cause ((gives.shown d).0 + 1))
              (sym (other d).0)
              (shown_in_frame (gives.shown d).0 (gives.shown d).1),
        );
        failed = λ _. (other d).1;
      })
      (is_memory fault)
