-- The invariant of the loop of `record` over a run of raw bytes, and its possible results.
use Rattle.std.proofs.Common.{◌≡◌, inl, inr, ℕ, ◌≤◌, List, [], ◌∷◌, ◌++◌, length, take}
use Rattle.std.proofs.Common.{drop, Result, Ok, Err, refl, sym, ◌∙◌, ap, subst, arith}
use Rattle.std.proofs.lemmas.List.{append_assoc, append-nil, take-append-drop, take_all}
use Rattle.std.proofs.lemmas.List.Concat.{flat_map-append}
use Rattle.dap_frame.proofs.Ends.{shown_by_byte}
use Rattle.dap_frame.proofs.Frames.{frame_grammar}
use Rattle.dap_frame.specs.declared.fault.FrameFault.{FrameFault}
use Rattle.dap_frame.specs.declared.limits.FrameLimits.{FrameLimits}
use Rattle.dap_frame.specs.Frame.{IsFrame, IsOpen, FailsAt}
use Rattle.dap_recording.specs.declared.recorder_fault.RecorderFault.{RecorderFault}
use Rattle.dap_recording.specs.declared.recorder_fault.RecorderFault.TheVariants.{Frame, Memory}
use Rattle.dap_recording.specs.OneSide.{WantsMemory}
use Rattle.dap_recording.specs.RecordedTraces.{AreRecorded}
use Rattle.dap_recording.specs.RecorderReading.{RecorderReading, RepresentsRests, GivesPiece}
use Rattle.dap_recording.specs.RecorderReading.{recorder_limits, text_of, with_rest}
use Rattle.dap_recording.specs.Recording.{record_text, recording_text}
use Rattle.dap_recording.proofs.RecorderRuns.{recorded_frame, rest_with}
use Rattle.dap_tree.specs.declared.side.Side.{Side}
use Rattle.dap_record.specs.Tracing.{sent_by}
use Rattle.dap_record.specs.TracingSteps.{HasRecorded, RecordsRun, ShowsInRun}
use Rattle.dap_record.proofs.TraceSteps.{recorded_open, sent_on, with_open}

-- The rests that a recorder represents are incomplete.
pub represented_is_incomplete : (limits : FrameLimits) (recorder : RecorderReading)
    (rests : Side → List ℕ)
    → RepresentsRests recorder rests → recorder_limits recorder ≡ limits → (s : Side)
    → IsOpen limits (rests s)
represented_is_incomplete limits recorder rests represents its s =
    subst (λ l. IsOpen l (rests s)) (represents.limits s ∙ its) (represents.each s).is_open

module _ (limits : FrameLimits) (recorder new : RecorderReading) (taken : List (Side × ℕ))
    (side : Side) (piece : List ℕ) (was : HasRecorded limits recorder taken) where
  -- The result of a call that consumed a part of the run.
  pub piece_taken : (used : ℕ) → GivesPiece side was.rests piece recorder new (Ok used)
      → recorder_limits new ≡ recorder_limits recorder
      → HasRecorded limits new (taken ++ sent_by side (take used piece))
  piece_taken used (inl on) kept =
      let all : take used piece ≡ piece =
      take_all used piece (let long : length piece ≤ used = omega (arith, on.all) in long) in
      let rests = with_rest side (was.rests side ++ piece) was.rests in
      let is_open : IsOpen limits (was.rests side ++ piece) =
      subst (IsOpen limits) (rest_with side (was.rests side ++ piece) was.rests)
      (represented_is_incomplete limits new rests on.represents (kept ∙ was.its_limits) side) in
      subst (λ xs. HasRecorded limits new (taken ++ sent_by side xs)) (sym all)
      (record {
        messages = was.messages;
        rests = rests;
        recorded = recorded_open limits taken was.messages was.rests was.recorded side piece
            is_open;
        represents = on.represents;
        its_limits = kept ∙ was.its_limits;
        text = on.text ∙ was.text;
      })
  piece_taken used (inr has) kept =
      let is = subst (λ l. IsFrame l (was.rests side ++ take used piece) has.content) was.its_limits
      has.is_frame in
      record {
        messages = was.messages ++ (side, has.content) ∷ [];
        rests = with_rest side [] was.rests;
        recorded = recorded_frame limits side taken (take used piece) was.messages was.rests
            was.recorded has.content is;
        represents = has.represents;
        its_limits = kept ∙ was.its_limits;
        text = has.text ∙ ap (λ xs. xs ++ record_text side has.content) was.text
            ∙ ap (λ xs. recording_text was.messages ++ xs)
            (sym (append-nil (record_text side has.content)))
            ∙ sym (flat_map-append (λ (m : Side × List ℕ). record_text m.0 m.1) was.messages
            ((side, has.content) ∷ []));
      }

  shows_there : (fault : FrameFault) (place : ℕ)
      → FailsAt limits (was.rests side ++ piece) fault place → text_of new ≡ text_of recorder
      → ShowsInRun limits new taken side piece fault
  shows_there fault place shows kept =
      let is_open = represented_is_incomplete limits recorder was.rests was.represents
      was.its_limits in
      let there =
      shown_by_byte (frame_grammar limits) (was.rests side) piece fault place (is_open side)
      shows in
      let rest : List ℕ = was.rests side ++ there.front in
      record {
        front = there.front;
        byte = there.byte;
        more = there.behind;
        run_is = there.split;
        messages = was.messages;
        rests = with_rest side rest was.rests;
        recorded = recorded_open limits taken was.messages was.rests was.recorded side there.front
            there.is_open;
        are_open = with_open limits side rest was.rests there.is_open is_open;
        place = place;
        shows = subst (λ r. FailsAt limits (r ++ there.byte ∷ []) fault place)
            (sym (rest_with side rest was.rests)) there.shows;
        text = kept ∙ was.text;
      }

  -- The result of a call that rejected a part of the run.
  pub piece_refused : (U : Type 0) (fault : RecorderFault)
      → GivesPiece side was.rests piece recorder new (Err fault)
      → (fault ≡ Memory → WantsMemory (recorder_limits recorder) (was.rests side) piece)
      → RecordsRun {U = U} limits new taken side piece (Err fault)
  piece_refused U fault (inl memory) wants =
      subst (λ f. RecordsRun {U = U} limits new taken side piece (Err f)) (sym memory.0)
      (record {
        front = [];
        more = piece;
        run_is = refl;
        messages = was.messages;
        rests = was.rests;
        recorded = subst (λ xs. AreRecorded limits xs was.messages was.rests)
            (sym (append-nil taken)) was.recorded;
        are_open = represented_is_incomplete limits recorder was.rests was.represents
            was.its_limits;
        wants = subst (λ l. WantsMemory l (was.rests side) piece) was.its_limits
            (wants memory.0);
      })
  piece_refused U fault (inr faulty) wants =
      subst (λ f. RecordsRun {U = U} limits new taken side piece (Err f)) (sym faulty.fault_is) (
        refl,
        shows_there faulty.cause faulty.shown.0
            (subst (λ l. FailsAt l (was.rests side ++ piece) faulty.cause faulty.shown.0)
            was.its_limits
            faulty.shown.1) faulty.text,
      )

-- A prefix of the run has been recorded, whatever was consumed before it.
pub record RecordedFront (limits : FrameLimits) (recorder : RecorderReading)
    (taken : List (Side × ℕ)) (side : Side) (run rest : List ℕ) : Type 0 where
  pub front : List ℕ
  pub run_is : run ≡ front ++ rest
  pub recorded : HasRecorded limits recorder (taken ++ sent_by side front)

abbrev pub RunGoesOn : RecorderReading → RecorderReading → Side → List ℕ → List ℕ → Type 0
RunGoesOn old recorder side run rest = (limits : FrameLimits) (taken : List (Side × ℕ))
    → HasRecorded limits old taken → RecordedFront limits recorder taken side run rest

pub run_starts : (old : RecorderReading) (side : Side) (run : List ℕ)
    → RunGoesOn old old side run run
run_starts old side run limits taken was =
    record {
      front = [];
      run_is = refl;
      recorded = subst (HasRecorded limits old) (sym (append-nil taken)) was;
    }

module _ (old recorder new : RecorderReading) (side : Side) (run rest : List ℕ)
    (was : RunGoesOn old recorder side run rest) where
  pub run_taken : (used : ℕ)
      → ((rests : Side → List ℕ) → RepresentsRests recorder rests
      → GivesPiece side rests rest recorder new (Ok used))
      → recorder_limits new ≡ recorder_limits recorder
      → RunGoesOn old new side run (drop used rest)
  run_taken used gives kept limits taken before =
      let so_far = was limits taken before in
      let more = piece_taken limits recorder new (taken ++ sent_by side so_far.front) side rest
      so_far.recorded used (gives so_far.recorded.rests so_far.recorded.represents) kept in
      record {
        front = so_far.front ++ take used rest;
        run_is = so_far.run_is ∙ ap (λ t. so_far.front ++ t) (sym (take-append-drop used rest))
            ∙ sym (append_assoc so_far.front (take used rest) (drop used rest));
        recorded = subst (HasRecorded limits new)
            (sent_on taken (sent_by side so_far.front) side so_far.front (take used rest) refl)
            more;
      }

  pub run_refused : (U : Type 0) (fault : RecorderFault)
      → ((rests : Side → List ℕ) → RepresentsRests recorder rests
      → GivesPiece side rests rest recorder new (Err fault))
      → (fault ≡ Memory → (rests : Side → List ℕ) → RepresentsRests recorder rests
      → WantsMemory (recorder_limits recorder) (rests side) rest)
      → (limits : FrameLimits) (taken : List (Side × ℕ)) → HasRecorded limits old taken
      → RecordsRun {U = U} limits new taken side run (Err fault)
  run_refused U fault gives wants limits taken before =
      let so_far = was limits taken before in
      later fault so_far
      (piece_refused limits recorder new (taken ++ sent_by side so_far.front) side rest
      so_far.recorded U fault (gives so_far.recorded.rests so_far.recorded.represents)
      (λ memory. wants memory so_far.recorded.rests so_far.recorded.represents))
    where
      later : (f : RecorderFault) → (so_far : RecordedFront limits recorder taken side run rest)
          → RecordsRun {U = U} limits new (taken ++ sent_by side so_far.front) side rest (Err f)
          → RecordsRun {U = U} limits new taken side run (Err f)
      later Memory so_far h = record {
        front = so_far.front ++ h.front;
        more = h.more;
        run_is = so_far.run_is ∙ ap (λ t. so_far.front ++ t) h.run_is
            ∙ sym (append_assoc so_far.front h.front h.more);
        messages = h.messages;
        rests = h.rests;
        recorded = subst (λ xs. AreRecorded limits xs h.messages h.rests)
            (sent_on taken (sent_by side so_far.front) side so_far.front h.front refl)
            h.recorded;
        are_open = h.are_open;
        wants = h.wants;
      }
      later (Frame s cause) so_far h =
          let in_rest = h.1 in (
            h.0,
            record {
              front = so_far.front ++ in_rest.front;
              byte = in_rest.byte;
              more = in_rest.more;
              run_is = so_far.run_is ∙ ap (λ t. so_far.front ++ t) in_rest.run_is
                  ∙ sym (append_assoc so_far.front in_rest.front (in_rest.byte ∷ in_rest.more));
              messages = in_rest.messages;
              rests = in_rest.rests;
              recorded = subst (λ xs. AreRecorded limits xs in_rest.messages in_rest.rests)
                  (sent_on taken (sent_by side so_far.front) side so_far.front in_rest.front refl)
                  in_rest.recorded;
              are_open = in_rest.are_open;
              place = in_rest.place;
              shows = in_rest.shows;
              text = in_rest.text;
            },
          )

  pub run_ended : rest ≡ [] → (limits : FrameLimits) (taken : List (Side × ℕ))
      → HasRecorded limits old taken → HasRecorded limits recorder (taken ++ sent_by side run)
  run_ended none limits taken before =
      let so_far = was limits taken before in
      subst (λ xs. HasRecorded limits recorder (taken ++ sent_by side xs))
      (sym (so_far.run_is ∙ ap (λ t. so_far.front ++ t) none ∙ append-nil so_far.front))
      so_far.recorded

-- The result of a run that was not rejected.
pub run_done : {U : Type 0} (limits : FrameLimits) (new : RecorderReading) (taken : List (Side × ℕ))
    (side : Side) (run : List ℕ) (result : Result U RecorderFault)
    → ((fault : RecorderFault) → result ≡ Err fault → ⊥)
    → RecordsRun limits new taken side run result
    → HasRecorded limits new (taken ++ sent_by side run)
run_done limits new taken side run (Ok done) not_refused records = records
run_done limits new taken side run (Err fault) not_refused records = absurd (not_refused fault refl)
