-- The invariant of the loop of `record` over a chunk of its input, and its possible results.
use Rattle.dap_device.specs.declared.device.Sink.{Ghosts as Sink}
use Rattle.dap_device.specs.declared.device.Source.{Ghosts as Source}
use Rattle.dap_frame.specs.declared.fault.FrameFault.TheVariants as frame_fault
use Rattle.std.proofs.Common.{◌≡◌, ◌≢◌, ◌⊎◌, inl, inr, ℕ, ◌+◌, ◌^◌, ◌<◌, ◌≤◌, List, [], ◌∷◌}
use Rattle.std.proofs.Common.{◌++◌, length, take, drop, Option, Some, None, MatchOption, Result, Ok}
use Rattle.std.proofs.Common.{Err, refl, sym, ◌∙◌, ap, ap₂, subst, arith}
use Rattle.std.proofs.lemmas.List.{append_assoc, append-nil, length-append, length-drop}
use Rattle.std.proofs.lemmas.List.{length-take, nil_from_length, take-append-drop, take_all}
use Rattle.dap_frame.proofs.Ends.{not_empty, shown_by_byte}
use Rattle.dap_frame.proofs.ItemStreams.{few_items}
use Rattle.dap_frame.specs.declared.fault.FrameFault.{FrameFault}
use Rattle.dap_frame.specs.Frame.{IsOpen}
use Rattle.dap_frame.specs.Lines.{number_of}
use Rattle.dap_frame.proofs.Faults.{shown_of_format}
use Rattle.dap_recording.specs.declared.recorder_fault.RecorderFault.{RecorderFault}
use Rattle.dap_recording.specs.declared.recorder_fault.RecorderFault.TheVariants.{Frame, Memory}
use Rattle.dap_recording.specs.declared.trace_fault.TraceCause.{TraceCause}
use Rattle.dap_recording.specs.declared.trace_fault.TraceCause.TheVariants as trace_cause
use Rattle.dap_recording.specs.declared.trace_fault.TraceFault.{TraceFault}
use Rattle.dap_recording.specs.declared.trace_state.TraceState.{TraceState}
use Rattle.dap_recording.specs.declared.trace_state.TraceState.TheVariants as state
use Rattle.dap_recording.specs.Marker.{marker}
use Rattle.dap_recording.specs.RecordedTraces.{AreRecorded, bytes_of}
use Rattle.dap_recording.specs.RecorderReading.{RecorderReading, RepresentsRests, recorder_limits}
use Rattle.dap_recording.specs.RecorderReading.{text_of}
use Rattle.dap_recording.specs.RecordReading.{next_number}
use Rattle.dap_recording.specs.Trace.{IsCount, IsPiece, ShowsTraceFault}
use Rattle.dap_recording.specs.declared.fed_trace.FedTrace.{FedTrace}
use Rattle.dap_recording.specs.declared.fed_trace.TracePart.{TracePart}
use Rattle.dap_recording.specs.TraceReading.{TraceReading, RepresentsPiece, IsKeptOfPiece}
use Rattle.dap_recording.specs.TraceReading.{GivesFedTrace, GivesRun, GivesTraceFault}
use Rattle.dap_recording.proofs.Fronts.{heads, not_empty as not_begun}
use Rattle.dap_recording.proofs.Markers.{marker_one}
use Rattle.dap_recording.proofs.TracePieces.{fault_of, parts_of, piece_grammar, readable}
use Rattle.dap_recording.proofs.TraceSteps.{begun}
use Rattle.dap_tree.specs.declared.side.Side.{Side}
use Rattle.dap_tree.specs.declared.side.Side.TheVariants.{Client, Adapter}
use Rattle.dap_input.specs.declared.limits.Limits.{Limits}
use Rattle.dap_device.specs.declared.reading.Stop.{Stop}
use Rattle.dap_device.specs.declared.reading.Stop.TheVariants.{End, Full, Failed}
use Rattle.dap_input.specs.declared.refused.Refused.{Refused}
use Rattle.dap_input.specs.declared.refused.Refused.TheVariants.{TraceTooLong, Trace, Recorder}
use Rattle.dap_input.specs.declared.refused.Refused.TheVariants.{ReadFault, WriteFault}
use Rattle.dap_input.specs.declared.refused.Refused.TheVariants.{Memory as NoMemory}
use Rattle.dap_device.specs.Written.{AllSent, PrefixWritten}
use Rattle.dap_input.specs.Limits.{AreSound}
use Rattle.dap_device.specs.Reading.{HasReadInput}
use Rattle.dap_record.specs.Tracing.{EndsInside, IsInRaw, IsOfEnd, IsOpenWith, IsRecordedAs}
use Rattle.dap_record.specs.Tracing.{IsTraceRefused, SoFar, TakesMemory, before_marker, in_count}
use Rattle.dap_record.specs.Tracing.{in_raw}
use Rattle.dap_record.specs.Tracing.{next_piece, of_frame, of_piece, sent_by, a_piece}
use Rattle.dap_record.specs.Tracing.{a_client_frame, an_adapter_frame, at_byte, past_limit, at_end}
use Rattle.dap_record.specs.TracingRun.{IsNotRefused}
use Rattle.dap_record.specs.TracingSteps.{HasRecorded, HasTraced, RecordsRun, TakesMemoryInRun}
use Rattle.dap_record.specs.TracingSteps.{Traces, Tracing}
use Rattle.dap_record.proofs.TraceOutcomes.{nothing_came, refusal_stays}
use Rattle.dap_record.proofs.TracePieces.{no_raw, open_of, opened}
use Rattle.dap_record.proofs.TraceSteps.{at_the_end, recorded_whole, sent_on, with_piece, with_raw}
use Rattle.dap_record.proofs.RawRunLoop.{represented_is_incomplete}

pub start : (limits : Limits) (whole : List ℕ) (reader : TraceReading) (recorder : RecorderReading)
    → AreSound limits → length whole ≤ limits.input → RepresentsPiece reader 1 [] []
    → RepresentsRests recorder (λ side. []) → text_of recorder ≡ []
    → recorder_limits recorder ≡ limits.frame → Tracing limits whole whole reader recorder 0
start limits whole reader recorder sound short reads represents text its_limits = record {
  done = [];
  so_far = nothing_came limits sound;
  whole_is = refl;
  short = short;
  raw = [];
  raw_is = λ s tail more e. refl;
  no_raw = λ e. refl;
  reads = reads;
  represents = represents;
  its_limits = its_limits;
  text = text;
  last_is = λ e. refl;
}

-- The summary that a trace reader stores of a piece, with its raw bytes.
kept_open : (at : TraceState) (bytes raw : List ℕ) (raws : List (Side × ℕ))
    → IsKeptOfPiece at bytes raw → (raw ≡ [] → raws ≡ [])
    → ((s : Side) (more : List ℕ) → bytes ≡ marker s ∷ more → raws ≡ sent_by s raw)
    → IsOpenWith bytes raws
kept_open state.Marker bytes raw raws kept none is =
    subst (IsOpenWith bytes) (sym (none kept.1)) (before_marker kept.0)
kept_open (state.Count side count) bytes raw raws kept none is =
    subst (IsOpenWith bytes) (sym (none kept.3))
    (in_count side kept.0 kept.1 (begun count kept.0 kept.2))
kept_open (state.Raw side left) bytes raw raws kept none is =
    let some = kept.4 in
    subst (IsOpenWith bytes) (sym (is side (kept.0 ++ 10 ∷ raw) kept.1))
    (in_raw side raw
    (record {
      text = kept.0;
      rest_is = kept.1;
      is_count = kept.2;
      to_come = omega (arith, kept.3, some);
    }))
kept_open (state.Failed cause) bytes raw raws kept none is = absurd kept

kept_raw : (at : TraceState) (bytes raw more : List ℕ) (side : Side) → IsKeptOfPiece at bytes raw
    → 0 < length raw → bytes ≡ marker side ∷ more → IsInRaw bytes side raw
kept_raw state.Marker bytes raw more side kept some begins =
    absurd (omega (arith, some, ap length kept.1))
kept_raw (state.Count s count) bytes raw more side kept some begins =
    absurd (omega (arith, some, ap length kept.3))
kept_raw (state.Raw s left) bytes raw more side kept some begins =
    let to_come = kept.4 in
    let same = heads (marker s) (marker side) (kept.0 ++ 10 ∷ raw) more (sym kept.1 ∙ begins) in
    subst (λ t. IsInRaw bytes t raw) (marker_one s side same.0)
    (record {
      text = kept.0;
      rest_is = kept.1;
      is_count = kept.2;
      to_come = omega (arith, kept.3, to_come);
    })
kept_raw (state.Failed cause) bytes raw more side kept some begins = absurd kept

-- The result of a call, depending on whether it returned a run.
module _ (number : ℕ) (bytes raw input : List ℕ) (fed : FedTrace) (new : TraceReading)
    (gives : GivesFedTrace number bytes raw input fed new) where
  abbrev ByRun : Option TracePart → Type 0
  ByRun part = MatchOption part
      ((fed.used ≡ length input) × RepresentsPiece new number (bytes ++ input) raw)
      (λ p. (p.piece ≡ number) × GivesRun number bytes raw input fed.used p.side p.bytes.now new)

  pub fed_run : (part : TracePart) → fed.part ≡ Some part
      → (part.piece ≡ number)
      × GivesRun number bytes raw input fed.used part.side part.bytes.now new
  fed_run part is = subst ByRun is gives.1

  pub fed_none : fed.part ≡ None
      → (fed.used ≡ length input) × RepresentsPiece new number (bytes ++ input) raw
  fed_none is = subst ByRun is gives.1

not_of_end : (n place : ℕ) (bytes : List ℕ) (cause : TraceCause) → ShowsTraceFault bytes cause place
    → IsOfEnd (Trace n cause) → ⊥
not_of_end n place bytes cause shows ended =
    elim (fault_of shows.front cause shows.ends) [
      | inl is ↦ subst (λ c. IsOfEnd (Trace n c)) is ended
      | inr is ↦ subst (λ c. IsOfEnd (Trace n c)) is ended
    ]

cut_of_end : (n : ℕ) (side : Side) (fault : FrameFault) → IsOfEnd (Recorder n (Frame side fault))
    → fault ≡ frame_fault.Cut
cut_of_end n side frame_fault.Cut h = refl
cut_of_end n side other h = absurd h

module _ (limits : Limits) (sound : AreSound limits) (whole rest : List ℕ) (reader : TraceReading)
    (recorder : RecorderReading) (last : ℕ) (was : Tracing limits whole rest reader recorder last)
  where
    -- More bytes were received.
    pub longer : (more : List ℕ) → length (whole ++ more) ≤ limits.input
        → Tracing limits (whole ++ more) (rest ++ more) reader recorder last
    longer more short = record {
      done = was.done;
      so_far = was.so_far;
      whole_is = ap (λ t. t ++ more) was.whole_is ∙ append_assoc was.done rest more;
      short = short;
      raw = was.raw;
      raw_is = was.raw_is;
      no_raw = was.no_raw;
      reads = was.reads;
      represents = was.represents;
      its_limits = was.its_limits;
      text = was.text;
      last_is = was.last_is;
    }

    -- All bytes received were consumed.
    pub piece_done : rest ≡ [] → Tracing limits whole [] reader recorder last
    piece_done none = subst (λ r. Tracing limits whole r reader recorder last) none was

    -- The bytes consumed before.
    abbrev pub taken : List (Side × ℕ)
    taken = bytes_of was.so_far.pieces ++ was.so_far.raw

    -- What the recorder has recorded before a run.
    abbrev pub recorded_before : HasRecorded limits.frame recorder (bytes_of was.so_far.pieces
        ++ was.so_far.raw)
    recorded_before = record {
      messages = was.so_far.messages;
      rests = was.so_far.rests;
      recorded = was.so_far.recorded;
      represents = was.represents;
      its_limits = was.its_limits;
      text = was.text;
    }

    -- The call returned no run.
    pub no_run : (used : ℕ) (new : TraceReading) → used ≡ length rest
        → RepresentsPiece new (next_piece was.so_far) (was.so_far.rest ++ rest) was.raw
        → 0 < length rest
        → Tracing limits whole (drop used rest) new recorder last
    no_run used new all represents some =
        let over : drop used rest ≡ [] =
        nil_from_length (drop used rest) (omega (arith, all, length-drop used rest)) in
        record {
          done = was.done ++ rest;
          so_far = record {
            front = was.so_far.front;
            pieces = was.so_far.pieces;
            trace = was.so_far.trace;
            rest = was.so_far.rest ++ rest;
            split = ap (λ t. t ++ rest) was.so_far.split
                ∙ append_assoc was.so_far.front was.so_far.rest rest;
            raw = was.so_far.raw;
            of_rest = kept_open new.state (was.so_far.rest ++ rest) was.raw was.so_far.raw
                represents.kept
                was.no_raw (λ s more. was.raw_is s rest more);
            messages = was.so_far.messages;
            rests = was.so_far.rests;
            recorded = was.so_far.recorded;
            are_open = was.so_far.are_open;
          };
          whole_is = was.whole_is
              ∙ sym (ap (λ t. (was.done ++ rest) ++ t) over ∙ append-nil (was.done ++ rest));
          short = was.short;
          raw = was.raw;
          raw_is = λ s tail more e. was.raw_is s (rest ++ tail) more
              (sym (append_assoc was.so_far.rest rest tail) ∙ e);
          no_raw = was.no_raw;
          reads = represents;
          represents = was.represents;
          its_limits = was.its_limits;
          text = was.text;
          last_is = λ none. absurd
              (omega (arith, some, ap length none, length-append was.so_far.rest rest));
        }

    module _ (used : ℕ) (side : Side) (run : List ℕ) (new : TraceReading) (within : used
        ≤ length rest)
        (gives : GivesRun (next_piece was.so_far) was.so_far.rest was.raw rest used side run new)
      where
        raw_by : was.so_far.raw ≡ sent_by side was.raw
        raw_by = was.raw_is side rest gives.begins.0 gives.begins.1

        parts : whole ≡ was.so_far.front ++ ((was.so_far.rest ++ take used rest) ++ drop used rest)
        parts =
            was.whole_is ∙ ap (λ t. t ++ rest) was.so_far.split
            ∙ append_assoc was.so_far.front was.so_far.rest rest
            ∙ ap (λ t. was.so_far.front ++ t)
            (ap (λ t. was.so_far.rest ++ t) (sym (take-append-drop used rest))
            ∙ sym (append_assoc was.so_far.rest (take used rest) (drop used rest)))

        few : length was.so_far.pieces ≤ length whole
        few =
            let fewer =
            few_items piece_grammar (not_empty readable) was.so_far.front was.so_far.pieces
            was.so_far.trace in
            omega (
              arith,
              fewer,
              ap length parts,
              length-append was.so_far.front
                  ((was.so_far.rest ++ take used rest) ++ drop used rest),
            )

        module _ (after : RecorderReading)
            (recorded : HasRecorded limits.frame after (taken ++ sent_by side run)) where
          are_recorded : AreRecorded limits.frame (bytes_of was.so_far.pieces
              ++ sent_by side (was.raw ++ run)) recorded.messages recorded.rests
          are_recorded =
              subst (λ xs. AreRecorded limits.frame xs recorded.messages recorded.rests)
              (sent_on (bytes_of was.so_far.pieces) was.so_far.raw side was.raw run raw_by)
              recorded.recorded

          are_open : (s : Side) → IsOpen limits.frame (recorded.rests s)
          are_open = represented_is_incomplete limits.frame after recorded.rests recorded.represents
              recorded.its_limits

          piece_ended : IsPiece (was.so_far.rest ++ take used rest) side (was.raw ++ run)
              → RepresentsPiece new (next_number (next_piece was.so_far)) [] []
              → Tracing limits whole (drop used rest) new after (next_piece was.so_far)
          piece_ended is represents =
              let last_piece : List ℕ = was.so_far.rest ++ take used rest in
              let pieces : List (Side × List ℕ) = was.so_far.pieces ++ (side, was.raw ++ run)
              ∷ [] in
              let more : length pieces ≡ length was.so_far.pieces + 1 =
              length-append was.so_far.pieces ((side, was.raw ++ run) ∷ []) in
              let small = sound.input in
              let short = was.short in
              let number : next_number (next_piece was.so_far) ≡ length pieces + 1 =
              omega (arith, more, few, short, small) in
              record {
                done = was.so_far.front ++ last_piece;
                so_far = with_piece limits.frame (was.so_far.front ++ last_piece) was.so_far.front
                    was.so_far.pieces was.so_far.trace side (was.raw ++ run) recorded.messages
                    recorded.rests are_recorded are_open last_piece is refl;
                whole_is = parts ∙ sym (append_assoc was.so_far.front last_piece (drop used rest));
                short = was.short;
                raw = [];
                raw_is = λ s tail more e. refl;
                no_raw = λ e. refl;
                reads = subst (λ n. RepresentsPiece new n [] []) number represents;
                represents = recorded.represents;
                its_limits = recorded.its_limits;
                text = recorded.text;
                last_is = λ e. sym more;
              }

          piece_goes_on : used ≡ length rest → 0 < length run
              → RepresentsPiece new (next_piece was.so_far) (was.so_far.rest ++ rest)
              (was.raw ++ run)
              → Tracing limits whole (drop used rest) new after (next_piece was.so_far)
          piece_goes_on all some represents =
              let over : drop used rest ≡ [] =
              nil_from_length (drop used rest) (omega (arith, all, length-drop used rest)) in
              let long : 0 < length (was.raw ++ run) = omega
              (arith, some, length-append was.raw run) in
              let is = kept_raw new.state (was.so_far.rest ++ rest) (was.raw ++ run) gives.begins.0
              side
              represents.kept long gives.begins.1 in
              record {
                done = was.so_far.front ++ (was.so_far.rest ++ rest);
                so_far = with_raw limits.frame (was.so_far.front ++ (was.so_far.rest ++ rest))
                    was.so_far.front was.so_far.pieces was.so_far.trace side (was.raw ++ run)
                    recorded.messages recorded.rests are_recorded are_open
                    (was.so_far.rest ++ rest) is
                    refl;
                whole_is = was.whole_is ∙ ap (λ t. t ++ rest) was.so_far.split
                    ∙ append_assoc was.so_far.front was.so_far.rest rest
                    ∙ sym (ap (λ t. (was.so_far.front ++ (was.so_far.rest ++ rest)) ++ t) over
                    ∙ append-nil (was.so_far.front ++ (was.so_far.rest ++ rest)));
                short = was.short;
                raw = was.raw ++ run;
                raw_is = λ s tail more e.
                    let same = heads (marker side) (marker s) (gives.begins.0 ++ tail) more
                    (sym (ap (λ t. t ++ tail) gives.begins.1) ∙ e) in
                    ap (λ t. sent_by t (was.raw ++ run)) (marker_one side s same.0);
                no_raw = λ none. absurd (omega (arith, long, ap length none));
                reads = represents;
                represents = recorded.represents;
                its_limits = recorded.its_limits;
                text = recorded.text;
                last_is = λ none. absurd
                    (not_begun (was.so_far.rest ++ rest) gives.begins.0 (marker side) none
                    gives.begins.1);
              }

          -- The call returned a run, and the run has been recorded.
          pub run_recorded : (number : ℕ) → number ≡ next_piece was.so_far
              → Tracing limits whole (drop used rest) new after number
          run_recorded number is =
              subst (Tracing limits whole (drop used rest) new after) (sym is)
              (elim gives.next [
                | inl ended ↦ piece_ended ended.0 ended.1
                | inr on ↦ piece_goes_on on.0 on.1 on.2
              ])

        -- The line of the count before the run.
        record Line : Type 0 where
          text : List ℕ
          bytes_are : was.so_far.rest ++ take used rest ≡ (marker side ∷ text) ++ 10
              ∷ (was.raw ++ run)
          is_count : IsCount text
          enough : length (was.raw ++ run) ≤ number_of text

        line : 0 < length run → Line
        line some =
            elim gives.next [
              | inl ended ↦
                  (let is = parts_of (was.so_far.rest ++ take used rest) side (was.raw ++ run)
                  ended.0
                  in let says =
                  is.says in record {
                    text = is.count;
                    bytes_are = is.bytes_are;
                    is_count = is.is_count;
                    enough = omega (arith, says);
                  })
              | inr on ↦ (let long : 0
                  < length (was.raw ++ run) = omega (arith, some, length-append was.raw run) in
                  let is = kept_raw new.state (was.so_far.rest ++ rest) (was.raw ++ run)
                  gives.begins.0
                  side on.2.kept long gives.begins.1 in
                  let to_come = is.to_come in
                  let whole_rest : take used rest ≡ rest =
                  take_all used rest (let far : length rest ≤ used = omega (arith, on.0) in far) in
                  record {
                    text = is.text;
                    bytes_are = ap (λ t. was.so_far.rest ++ t) whole_rest
                        ∙ is.rest_is;
                    is_count = is.is_count;
                    enough = omega (arith, to_come);
                  })
            ]

        -- A byte of the run proves an error.
        pub fault_in_run : (bytes : List ℕ) → whole ≡ take limits.input bytes
            → (stop : Stop) (after : RecorderReading) (number : ℕ) (s : Side) (fault : FrameFault)
            {U : Type 0} → number ≡ next_piece was.so_far
            → RecordsRun {U = U} limits.frame after (bytes_of was.so_far.pieces ++ was.so_far.raw)
            side
            run (Err (Frame s fault))
            → HasTraced {U = U} limits bytes stop (Err (Recorder number (Frame s fault))) after
        fault_in_run bytes is_front stop after number s fault number_is (same, there) =
            let front : List ℕ = there.front in
            let some : 0 < length run =
            omega (arith, ap length there.run_is, length-append front (there.byte ∷ there.more)) in
            let its = line some in
            let enough = its.enough in
            let head : List ℕ = (marker side ∷ its.text) ++ 10 ∷ (was.raw ++ front) in
            let beyond : List ℕ = there.more ++ (drop used rest ++ drop limits.input bytes) in
            let run_is : was.raw ++ run ≡ (was.raw ++ front) ++ there.byte ∷ there.more =
            ap (λ t. was.raw ++ t) there.run_is
            ∙ sym (append_assoc was.raw front (there.byte ∷ there.more)) in
            let is : IsInRaw head side (was.raw ++ front) = record {
              text = its.text;
              rest_is = refl;
              is_count = its.is_count;
              to_come = omega (
                arith,
                enough,
                ap length run_is,
                length-append (was.raw ++ front) (there.byte ∷ there.more),
              );
            } in
            let at_line : was.so_far.rest ++ take used rest ≡ head ++ there.byte ∷ there.more =
            its.bytes_are ∙ ap (λ t. (marker side ∷ its.text) ++ 10 ∷ t) run_is
            ∙ sym (append_assoc (marker side ∷ its.text) (10 ∷ (was.raw ++ front)) (there.byte
            ∷ there.more)) in
            let whole_parts : whole
            ≡ (was.so_far.front ++ head) ++ there.byte ∷ (there.more ++ drop used rest) =
            parts ∙ ap (λ t. was.so_far.front ++ (t ++ drop used rest)) at_line
            ∙ ap (λ t. was.so_far.front ++ t)
            (append_assoc head (there.byte ∷ there.more) (drop used rest))
            ∙ sym (append_assoc was.so_far.front head
            (there.byte ∷ (there.more ++ drop used rest))) in
            let split : bytes ≡ (was.so_far.front ++ head) ++ there.byte ∷ beyond =
            sym (take-append-drop limits.input bytes)
            ∙ ap (λ t. t ++ drop limits.input bytes) (sym is_front ∙ whole_parts)
            ∙ append_assoc (was.so_far.front ++ head) (there.byte ∷ (there.more ++ drop used rest))
            (drop limits.input bytes)
            ∙ ap (λ t. (was.so_far.front ++ head) ++ there.byte ∷ t)
            (append_assoc there.more (drop used rest) (drop limits.input bytes)) in
            let short = was.short in
            let early : length (was.so_far.front ++ head) < limits.input =
            omega (
              arith,
              short,
              ap length whole_parts,
              length-append (was.so_far.front ++ head)
                  (there.byte ∷ (there.more ++ drop used rest)),
            )
            in
            let recorded =
            subst (λ xs. AreRecorded limits.frame xs there.messages there.rests)
            (sent_on (bytes_of was.so_far.pieces) was.so_far.raw side was.raw front raw_by)
            there.recorded in
            let come : SoFar limits.frame (was.so_far.front ++ head) =
            with_raw limits.frame (was.so_far.front ++ head) was.so_far.front was.so_far.pieces
            was.so_far.trace side (was.raw ++ front) there.messages there.rests recorded
            there.are_open head is refl in
            let refused : IsTraceRefused limits bytes
            (Recorder (next_piece was.so_far) (Frame side fault)) there.messages =
            at_byte (was.so_far.front ++ head) there.byte beyond split early come
            (of_frame side (was.raw ++ front) fault is there.shows) in
            record {
              messages = there.messages;
              judges = (
                subst (λ n. IsTraceRefused limits bytes (Recorder n (Frame s fault)) there.messages)
                    (sym number_is)
                    (subst (λ t. IsTraceRefused limits bytes
                    (Recorder (next_piece was.so_far) (Frame t fault)) there.messages) (sym same)
                    refused),
                λ ended. absurd
                    ((shown_of_format limits.frame (there.rests side ++ there.byte ∷ []) fault
                    there.place there.shows).0 (cut_of_end number s fault ended)),
              );
              text = there.text;
            }

        -- The rest of the run requires an allocation.
        pub memory_in_run : (bytes : List ℕ) → whole ≡ take limits.input bytes
            → TakesMemoryInRun limits.frame (bytes_of was.so_far.pieces ++ was.so_far.raw) side run
            → TakesMemory limits.frame bytes
        memory_in_run bytes is_front there =
            let front : List ℕ = there.front in
            let left = there.wants.0 in
            let some : 0 < length run =
            omega (arith, left, ap length there.run_is, length-append front there.more) in
            let its = line some in
            let enough = its.enough in
            let head : List ℕ = (marker side ∷ its.text) ++ 10 ∷ (was.raw ++ front) in
            let beyond : List ℕ = drop used rest ++ drop limits.input bytes in
            let run_is : was.raw ++ run ≡ (was.raw ++ front) ++ there.more =
            ap (λ t. was.raw ++ t) there.run_is ∙ sym (append_assoc was.raw front there.more) in
            let is : IsInRaw head side (was.raw ++ front) = record {
              text = its.text;
              rest_is = refl;
              is_count = its.is_count;
              to_come = omega (
                arith,
                enough,
                left,
                ap length run_is,
                length-append (was.raw ++ front) there.more,
              );
            } in
            let at_line : was.so_far.rest ++ take used rest ≡ head ++ there.more =
            its.bytes_are ∙ ap (λ t. (marker side ∷ its.text) ++ 10 ∷ t) run_is
            ∙ sym (append_assoc (marker side ∷ its.text) (10 ∷ (was.raw ++ front)) there.more) in
            let recorded =
            subst (λ xs. AreRecorded limits.frame xs there.messages there.rests)
            (sent_on (bytes_of was.so_far.pieces) was.so_far.raw side was.raw front raw_by)
            there.recorded in
            record {
              front = was.so_far.front ++ head;
              so_far = with_raw limits.frame (was.so_far.front ++ head) was.so_far.front
                  was.so_far.pieces was.so_far.trace side (was.raw ++ front) there.messages
                  there.rests recorded there.are_open head is refl;
              side = side;
              raw = was.raw ++ front;
              in_raw = is;
              run = there.more;
              more = beyond;
              split =
                  sym (take-append-drop limits.input bytes)
                  ∙ ap (λ t. t ++ drop limits.input bytes) (sym is_front ∙ parts)
                  ∙ append_assoc was.so_far.front
                  ((was.so_far.rest ++ take used rest) ++ drop used rest) (drop limits.input bytes)
                  ∙ ap (λ t. was.so_far.front ++ t)
                  (append_assoc (was.so_far.rest ++ take used rest) (drop used rest)
                  (drop limits.input bytes)
                  ∙ ap (λ t. t ++ beyond) at_line ∙ append_assoc head there.more beyond)
                  ∙ sym (append_assoc was.so_far.front head (there.more ++ beyond));
              of_piece = omega (arith, enough, ap length run_is);
              wants = there.wants;
            }

        pub run_faulty : (bytes : List ℕ) → whole ≡ take limits.input bytes
            → (stop : Stop) (after : RecorderReading) (number : ℕ) (fault : RecorderFault)
            (U : Type 0)
            → number ≡ next_piece was.so_far
            → (fault ≡ Memory → ⊥)
            → RecordsRun {U = U} limits.frame after (bytes_of was.so_far.pieces ++ was.so_far.raw)
            side run (Err fault)
            → HasTraced {U = U} limits bytes stop (Err (Recorder number fault)) after
        run_faulty bytes is_front stop after number Memory U number_is some
            reported = absurd (some refl)
        run_faulty bytes is_front stop after number (Frame s cause) U number_is some reported =
            fault_in_run bytes is_front stop after number s cause {U = U} number_is reported

    module _ (bytes : List ℕ) (is_front : whole ≡ take limits.input bytes) where
      all_bytes : bytes ≡ was.so_far.front ++ ((was.so_far.rest ++ rest) ++ drop limits.input bytes)
      all_bytes =
          sym (take-append-drop limits.input bytes)
          ∙ ap (λ t. t ++ drop limits.input bytes) (sym is_front ∙ was.whole_is
          ∙ ap (λ t. t ++ rest) was.so_far.split
          ∙ append_assoc was.so_far.front was.so_far.rest rest)
          ∙ append_assoc was.so_far.front (was.so_far.rest ++ rest) (drop limits.input bytes)

      -- A byte of a marker or a count proves an error.
      pub fault_in_piece : (stop : Stop) (fault : TraceFault) (new : TraceReading) {U : Type 0}
          → GivesTraceFault (next_piece was.so_far) was.so_far.rest rest fault new
          → HasTraced {U = U} limits bytes stop (Err (Trace fault.piece fault.cause)) recorder
      fault_in_piece stop fault new gives =
          let there =
          shown_by_byte piece_grammar was.so_far.rest rest fault.cause gives.shown.0
          (open_of was.so_far.of_rest) gives.shown.1 in
          let none = no_raw was.so_far.rest rest was.so_far.raw fault.cause gives.shown.0
          was.so_far.of_rest gives.shown.1 in
          let begun : List ℕ = was.so_far.rest ++ there.front in
          let now = opened begun there.is_open in
          let begun_is : was.so_far.rest ++ rest ≡ begun ++ there.byte ∷ there.behind =
          ap (λ t. was.so_far.rest ++ t) there.split
          ∙ sym (append_assoc was.so_far.rest there.front (there.byte ∷ there.behind)) in
          let front : List ℕ = was.so_far.front ++ begun in
          let split : bytes ≡ front ++ there.byte ∷ (there.behind ++ drop limits.input bytes) =
          all_bytes ∙ ap (λ t. was.so_far.front ++ (t ++ drop limits.input bytes)) begun_is
          ∙ ap (λ t. was.so_far.front ++ t)
          (append_assoc begun (there.byte ∷ there.behind) (drop limits.input bytes))
          ∙ sym (append_assoc was.so_far.front begun (there.byte
          ∷ (there.behind ++ drop limits.input bytes))) in
          let whole_parts : whole ≡ front ++ there.byte ∷ there.behind =
          was.whole_is ∙ ap (λ t. t ++ rest) was.so_far.split
          ∙ append_assoc was.so_far.front was.so_far.rest rest
          ∙ ap (λ t. was.so_far.front ++ t) begun_is
          ∙ sym (append_assoc was.so_far.front begun (there.byte ∷ there.behind)) in
          let short = was.short in
          let come : SoFar limits.frame front = record {
            front = was.so_far.front;
            pieces = was.so_far.pieces;
            trace = was.so_far.trace;
            rest = begun;
            split = refl;
            raw = [];
            of_rest = subst (IsOpenWith begun)
                (no_raw begun (there.byte ∷ []) now.0 fault.cause gives.shown.0 now.1 there.shows)
                now.1;
            messages = was.so_far.messages;
            rests = was.so_far.rests;
            recorded = subst
                (λ xs. AreRecorded limits.frame (bytes_of was.so_far.pieces ++ xs)
                was.so_far.messages
                was.so_far.rests) none was.so_far.recorded;
            are_open = was.so_far.are_open;
          } in
          let refused : IsTraceRefused limits bytes (Trace (next_piece was.so_far) fault.cause)
          was.so_far.messages =
          at_byte front there.byte (there.behind ++ drop limits.input bytes) split
          (omega (
            arith,
            short,
            ap length whole_parts,
            length-append front (there.byte ∷ there.behind),
          )) come
          (of_piece fault.cause there.shows) in
          record {
            messages = was.so_far.messages;
            judges = (
              subst (λ n. IsTraceRefused limits bytes (Trace n fault.cause) was.so_far.messages)
                  (sym gives.piece_is) refused,
              λ ended. absurd
                  (not_of_end fault.piece gives.shown.0 (begun ++ there.byte ∷ []) fault.cause
                  there.shows ended),
            );
            text = was.text;
          }

      -- ---- at the end of the bytes consumed

      module _ (none : rest ≡ []) where
        whole_done : whole ≡ was.done
        whole_done = was.whole_is ∙ ap (λ t. was.done ++ t) none ∙ append-nil was.done

        pub too_long : {U : Type 0} (number : ℕ) → number ≡ next_piece was.so_far
            → limits.input < length bytes
            → HasTraced {U = U} limits bytes Full (Err (TraceTooLong number)) recorder
        too_long {U} number is long = behind (drop limits.input bytes) refl
          where
            full : length was.done ≡ limits.input
            full = let front =
                length-take limits.input bytes in omega
                (arith, long, front, ap length is_front, ap length whole_done)

            behind : (beyond : List ℕ) → drop limits.input bytes ≡ beyond
                → HasTraced {U = U} limits bytes Full (Err (TraceTooLong number)) recorder
            behind [] e = absurd (omega (arith, long, ap length e, length-drop limits.input bytes))
            behind (byte ∷ more) e = record {
              messages = was.so_far.messages;
              judges = (
                subst (λ n. IsTraceRefused limits bytes (TraceTooLong n) was.so_far.messages)
                    (sym is)
                    (past_limit was.done byte more (sym (take-append-drop limits.input bytes)
                    ∙ ap₂ (λ xs ys. xs ++ ys) (sym is_front ∙ whole_done) e) full was.so_far),
                λ ended. absurd ended,
              );
              text = was.text;
            }

        module _ (short : length bytes ≤ limits.input) where
          done_is : bytes ≡ was.done
          done_is = sym (is_front ∙ take_all limits.input bytes short) ∙ whole_done

          abbrev come : SoFar limits.frame bytes
          come = record {
            front = was.so_far.front;
            pieces = was.so_far.pieces;
            trace = was.so_far.trace;
            rest = was.so_far.rest;
            split = done_is ∙ was.so_far.split;
            raw = was.so_far.raw;
            of_rest = was.so_far.of_rest;
            messages = was.so_far.messages;
            rests = was.so_far.rests;
            recorded = was.so_far.recorded;
            are_open = was.so_far.are_open;
          }

          pub failed : {U : Type 0} → HasTraced {U = U} limits bytes Failed (Err ReadFault) recorder
          failed = record {
            messages = was.so_far.messages;
            judges = (refl, not_refused (at_the_end limits bytes come short));
            text = was.text;
          }
            where
              not_refused : IsRecordedAs limits bytes was.so_far.messages
                  ⊎ ((refused : Refused) × IsOfEnd refused × EndsInside come refused)
                  → IsNotRefused limits bytes was.so_far.messages
              not_refused (inl is) = inl is
              not_refused (inr inside) = inr (inside.0, inside.1, at_end short come inside.2)

          pub cut_in_piece : {U : Type 0} (number : ℕ) (cause : TraceCause)
              → number ≡ next_piece was.so_far → cause ≡ trace_cause.Cut → was.so_far.rest ≢ []
              → HasTraced {U = U} limits bytes End (Err (Trace number cause)) recorder
          cut_in_piece {U} number cause is cut some =
              subst (λ c. HasTraced {U = U} limits bytes End (Err (Trace number c)) recorder)
              (sym cut)
              (record {
                messages = was.so_far.messages;
                judges = (
                  subst
                      (λ n. IsTraceRefused limits bytes (Trace n trace_cause.Cut)
                      was.so_far.messages)
                      (sym is) (at_end short come (a_piece some)),
                  λ ended. refl,
                );
                text = was.text;
              })

          module _ (over : was.so_far.rest ≡ []) where
            pub all_recorded : {U : Type 0} (done : U)
                → (was.so_far.rests Client ≡ []) × (was.so_far.rests Adapter ≡ [])
                → HasTraced limits bytes End (Ok done) recorder
            all_recorded done (client, adapter) =
                record {
                  messages = was.so_far.messages;
                  judges = (refl, recorded_whole limits bytes come short over each);
                  text = was.text;
                }
              where
                each : (side : Side) → was.so_far.rests side ≡ []
                each Client = client
                each Adapter = adapter

            pub cut_in_frame : (U : Type 0) {V : Type 0} (result : Result V RecorderFault)
                (fault : RecorderFault) → result ≡ Err fault
                → ((was.so_far.rests Client ≡ []) × (was.so_far.rests Adapter ≡ []) → ⊥)
                → (was.so_far.rests Client ≢ [] → result ≡ Err (Frame Client frame_fault.Cut))
                → (was.so_far.rests Client ≡ [] → was.so_far.rests Adapter ≢ []
                → result ≡ Err (Frame Adapter frame_fault.Cut))
                → HasTraced {U = U} limits bytes End (Err (Recorder last fault)) recorder
            cut_in_frame U {V} result fault is not_both client adapter =
                by_client (was.so_far.rests Client) refl
              where
                reported : (s : Side) → result ≡ Err (Frame s frame_fault.Cut)
                    → IsTraceRefused limits bytes
                    (Recorder (length was.so_far.pieces) (Frame s frame_fault.Cut))
                    was.so_far.messages
                    → HasTraced {U = U} limits bytes End (Err (Recorder last fault)) recorder
                reported s e refused =
                    let same : fault ≡ Frame s frame_fault.Cut =
                    (let both : ◌≡◌ {A = Result V RecorderFault} (Err fault)
                    (Err (Frame s frame_fault.Cut)) = sym is ∙ e in cc) in
                    subst (λ f. HasTraced {U = U} limits bytes End (Err (Recorder last f)) recorder)
                    (sym same)
                    (record {
                      messages = was.so_far.messages;
                      judges = (
                        subst
                            (λ n. IsTraceRefused limits bytes (Recorder n (Frame s frame_fault.Cut))
                            was.so_far.messages) (sym (was.last_is over)) refused,
                        λ ended. refl,
                      );
                      text = was.text;
                    })

                some_byte : (r xs : List ℕ) (b : ℕ) → r ≡ b ∷ xs → r ≢ []
                some_byte r xs b e none = not_begun r xs b none e

                by_adapter : (r : List ℕ) → was.so_far.rests Adapter ≡ r
                    → was.so_far.rests Client ≡ []
                    → HasTraced {U = U} limits bytes End (Err (Recorder last fault)) recorder
                by_adapter [] e empty = absurd (not_both (empty, e))
                by_adapter (b ∷ r) e empty =
                    let some = some_byte (was.so_far.rests Adapter) r b e in
                    reported Adapter (adapter empty some)
                    (at_end short come (an_adapter_frame over empty some))

                by_client : (r : List ℕ) → was.so_far.rests Client ≡ r
                    → HasTraced {U = U} limits bytes End (Err (Recorder last fault)) recorder
                by_client [] e = by_adapter (was.so_far.rests Adapter) refl e
                by_client (b ∷ r) e =
                    let some = some_byte (was.so_far.rests Client) r b e in
                    reported Client (client some) (at_end short come (a_client_frame over some))

    -- The number of pieces is far below 2 ^ 63.
    pub last_small : was.so_far.rest ≡ [] → last + 1 < 2 ^ 63
    last_small none =
        let fewer =
        few_items piece_grammar (not_empty readable) was.so_far.front was.so_far.pieces
        was.so_far.trace in
        let small = sound.input in
        let short = was.short in
        omega (
          arith,
          was.last_is none,
          fewer,
          small,
          short,
          ap length was.whole_is,
          length-append was.done rest,
          ap length was.so_far.split,
          length-append was.so_far.front was.so_far.rest,
        )
