-- Calls of a recorder over the pieces of a trace record its frames in the order of the bytes that
-- end them.
use Rattle.std.proofs.Common.{◌≡◌, ℕ, ◌≤◌, ◌⊎◌, inl, inr, false, List, [], ◌∷◌, ◌++◌, length, take}
use Rattle.std.proofs.Common.{drop, map, refl, sym, ap, ◌∙◌, subst, arith}
use Rattle.std.specs.List.{filter}
use Rattle.std.proofs.lemmas.List.{append_assoc, append-nil, map-append, take_all, take-append-drop}
use Rattle.std.proofs.lemmas.List.Elements.{filter-append}
use Rattle.std.proofs.lemmas.List.Concat.{flat_map-append}
use Rattle.dap_frame.proofs.Ends.{item_of_more, no_item_before, open_has_no_item}
use Rattle.dap_frame.proofs.ItemStreams.{items_append, nothing_has_no_item, one_item_alone}
use Rattle.dap_frame.specs.declared.limits.FrameLimits.{FrameLimits}
use Rattle.dap_frame.specs.declared.fault.FrameFault.{FrameFault}
use Rattle.dap_frame.specs.Frame.{IsFrame, HasFrame, Stream, IsOpen, frames}
use Rattle.dap_frame.specs.Reading.{limits_of}
use Rattle.dap_frame.proofs.Frames.{frame_grammar, no_empty_frame}
use Rattle.dap_tree.specs.declared.side.Side.{Side}
use Rattle.dap_tree.specs.declared.side.Side.TheVariants.{Client, Adapter}
use Rattle.dap_recording.specs.declared.recorder_fault.RecorderFault.TheVariants as reported
use Rattle.dap_recording.specs.Recording.{record_text, recording_text}
use Rattle.dap_recording.specs.RecorderReading.{RecorderReading, RepresentsRests, GoesOn}
use Rattle.dap_recording.specs.RecorderReading.{HasRecorded, framer_of, with_rest, text_of}
use Rattle.dap_recording.specs.RecorderReading.{recorder_limits}
use Rattle.dap_recording.specs.RecordedTraces.{is_side, of_side, bytes_of, HaveEnded, AreRecorded}
use Rattle.dap_recording.specs.RecordedTraces.{RecordedSoFar}
use Rattle.dap_recording.specs.Feeding.{Records, begun, next_piece, took, refused}

-- bytes of one side
abbrev sent_by : Side → List ℕ → List (Side × ℕ)
sent_by side bytes = map (λ byte. (side, byte)) bytes

pub of_side-append : {A : Type 0} (side : Side) (xs ys : List (Side × A))
    → of_side side (xs ++ ys) ≡ of_side side xs ++ of_side side ys
of_side-append {A} side xs ys =
    ap (map (λ (x : Side × A). x.1)) (filter-append (λ (x : Side × A). is_side side x.0) xs ys)
    ∙ map-append (λ (x : Side × A). x.1) (filter (λ (x : Side × A). is_side side x.0) xs)
    (filter (λ (x : Side × A). is_side side x.0) ys)

pub same_side : (s : Side) (bytes : List ℕ) → of_side s (sent_by s bytes) ≡ bytes
same_side Client [] = refl
same_side Client (b ∷ bytes) = ap (λ xs. b ∷ xs) (same_side Client bytes)
same_side Adapter [] = refl
same_side Adapter (b ∷ bytes) = ap (λ xs. b ∷ xs) (same_side Adapter bytes)

other_side : (side s : Side) (bytes : List ℕ) → is_side side s ≡ false
    → of_side side (sent_by s bytes) ≡ []
other_side Client Client bytes e = absurd (let f : ⊥ = cc in f)
other_side Client Adapter [] e = refl
other_side Client Adapter (b ∷ bytes) e = other_side Client Adapter bytes e
other_side Adapter Client [] e = refl
other_side Adapter Client (b ∷ bytes) e = other_side Adapter Client bytes e
other_side Adapter Adapter bytes e = absurd (let f : ⊥ = cc in f)

one_of_side : (s : Side) (content : List ℕ) → of_side s ((s, content) ∷ []) ≡ content ∷ []
one_of_side Client content = refl
one_of_side Adapter content = refl

none_of_side : (side s : Side) (content : List ℕ) → is_side side s ≡ false
    → of_side side ((s, content) ∷ []) ≡ []
none_of_side Client Client content e = absurd (let f : ⊥ = cc in f)
none_of_side Client Adapter content e = refl
none_of_side Adapter Client content e = refl
none_of_side Adapter Adapter content e = absurd (let f : ⊥ = cc in f)

pub bytes_of_side : (s : Side) (taken : List (Side × ℕ)) (bytes : List ℕ)
    → of_side s (taken ++ sent_by s bytes) ≡ of_side s taken ++ bytes
bytes_of_side s taken bytes =
    of_side-append s taken (sent_by s bytes) ∙ ap (λ ys. of_side s taken ++ ys) (same_side s bytes)

pub bytes_of_other : (side s : Side) (taken : List (Side × ℕ)) (bytes : List ℕ)
    → is_side side s ≡ false
    → of_side side (taken ++ sent_by s bytes) ≡ of_side side taken
bytes_of_other side s taken bytes e =
    of_side-append side taken (sent_by s bytes)
    ∙ ap (λ ys. of_side side taken ++ ys) (other_side side s bytes e)
    ∙ append-nil (of_side side taken)

-- the stream of one side changes, and that of the other side is unchanged
ended_with : (limits : FrameLimits) (s : Side) (taken : List (Side × ℕ)) (bytes rest : List ℕ)
    (ms ns : List (Side × List ℕ)) (rests : Side → List ℕ)
    → Stream limits (of_side s taken ++ bytes) (of_side s ns) rest
    → ((side : Side) → is_side side s ≡ false → of_side side ns ≡ of_side side ms)
    → HaveEnded limits taken ms rests
    → HaveEnded limits (taken ++ sent_by s bytes) ns (with_rest s rest rests)
ended_with limits Client taken bytes rest ms ns rests mine other was = each
  where
    each : (side : Side)
        → Stream limits (of_side side (taken ++ sent_by Client bytes)) (of_side side ns)
        (with_rest Client rest rests side)
    each Client =
        subst (λ xs. Stream limits xs (of_side Client ns) rest)
        (sym (bytes_of_side Client taken bytes)) mine
    each Adapter =
        subst (λ xs. Stream limits xs (of_side Adapter ns) (rests Adapter))
        (sym (bytes_of_other Adapter Client taken bytes refl))
        (subst (λ cs. Stream limits (of_side Adapter taken) cs (rests Adapter))
        (sym (other Adapter refl)) (was Adapter))
ended_with limits Adapter taken bytes rest ms ns rests mine other was = each
  where
    each : (side : Side)
        → Stream limits (of_side side (taken ++ sent_by Adapter bytes)) (of_side side ns)
        (with_rest Adapter rest rests side)
    each Client =
        subst (λ xs. Stream limits xs (of_side Client ns) (rests Client))
        (sym (bytes_of_other Client Adapter taken bytes refl))
        (subst (λ cs. Stream limits (of_side Client taken) cs (rests Client))
        (sym (other Client refl)) (was Client))
    each Adapter =
        subst (λ xs. Stream limits xs (of_side Adapter ns) rest)
        (sym (bytes_of_side Adapter taken bytes)) mine

goes_on : (limits : FrameLimits) (s : Side) (taken : List (Side × ℕ)) (bytes : List ℕ)
    (ms : List (Side × List ℕ)) (rests : Side → List ℕ)
    → HaveEnded limits taken ms rests → (HasFrame limits (rests s ++ bytes) → ⊥)
    → HaveEnded limits (taken ++ sent_by s bytes) ms (with_rest s (rests s ++ bytes) rests)
goes_on limits s taken bytes ms rests was none =
    ended_with limits s taken bytes (rests s ++ bytes) ms ms rests (record {
      front = (was s).front;
      items = (was s).items;
      whole = ap (λ xs. xs ++ bytes) (was s).whole ∙ append_assoc (was s).front (rests s) bytes;
      no_item = none;
    }) (λ side e. refl) was

frame_ends : (limits : FrameLimits) (s : Side) (taken : List (Side × ℕ)) (bytes content : List ℕ)
    (ms : List (Side × List ℕ)) (rests : Side → List ℕ)
    → HaveEnded limits taken ms rests → IsFrame limits (rests s ++ bytes) content
    → HaveEnded limits (taken ++ sent_by s bytes) (ms ++ (s, content) ∷ []) (with_rest s [] rests)
frame_ends limits s taken bytes content ms rests was is =
    let frame : List ℕ = rests s ++ bytes in
    let contents : of_side s (ms ++ (s, content) ∷ []) ≡ of_side s ms ++ content ∷ [] =
    of_side-append s ms ((s, content) ∷ [])
    ∙ ap (λ cs. of_side s ms ++ cs) (one_of_side s content) in
    ended_with limits s taken bytes [] ms (ms ++ (s, content) ∷ []) rests
    (subst (λ cs. Stream limits (of_side s taken ++ bytes) cs []) (sym contents) (record {
      front = (was s).front ++ frame;
      items = items_append (frames limits) (was s).front frame (of_side s ms) (content ∷ [])
          (was s).items (one_item_alone (frames limits) frame content is);
      whole = ap (λ xs. xs ++ bytes) (was s).whole ∙ append_assoc (was s).front (rests s) bytes
          ∙ sym (append-nil ((was s).front ++ frame));
      no_item = nothing_has_no_item (frame_grammar limits) (no_empty_frame limits);
    }))
    (λ side e. of_side-append side ms ((s, content) ∷ [])
    ∙ ap (λ cs. of_side side ms ++ cs) (none_of_side side s content e)
    ∙ append-nil (of_side side ms))
    was

-- a prefix of two concatenated lists is a prefix of the first, or the first and a prefix of the
-- second
fronts : (xs ys front back : List (Side × ℕ)) → xs ++ ys ≡ front ++ back
    → ((rest : List (Side × ℕ)) × (xs ≡ front ++ rest))
    ⊎ ((p : List (Side × ℕ)) × (q : List (Side × ℕ)) × (front ≡ xs ++ p) × (ys ≡ p ++ q))
fronts xs ys [] back e = inl (xs, refl)
fronts [] ys (f ∷ front) back e = inr (f ∷ front, back, refl, e)
fronts (x ∷ xs) ys (f ∷ front) back e =
    let same : x ≡ f = cc in
    let behind : xs ++ ys ≡ front ++ back = cc in
    elim (fronts xs ys front back behind) [
      | inl within ↦ inl (within.0, ap (λ y. y ∷ xs) same ∙ ap (λ zs. f ∷ zs) within.1)
      | inr past ↦ inr (
        past.0,
        past.1,
        ap (λ y. y ∷ front) (sym same)
            ∙ ap (λ zs. x ∷ zs) past.2,
        past.3,
      )
    ]

-- a prefix of one side's bytes consists of that side's bytes
sent_front : (s : Side) (bytes : List ℕ) (p q : List (Side × ℕ)) → sent_by s bytes ≡ p ++ q
    → (front : List ℕ) × (back : List ℕ) × (p ≡ sent_by s front) × (bytes ≡ front ++ back)
sent_front s bytes [] q e = ([], bytes, refl, refl)
sent_front s [] (x ∷ p) q e = absurd (let f : ⊥ = cc in f)
sent_front s (b ∷ bytes) (x ∷ p) q e =
    let same : (s, b) ≡ x = cc in
    let behind : sent_by s bytes ≡ p ++ q = cc in
    let rest = sent_front s bytes p q behind in (
      b ∷ rest.0,
      rest.1,
      ap (λ y. y ∷ p) (sym same)
          ∙ ap (λ ys. (s, b) ∷ ys) rest.2,
      ap (λ ys. b ∷ ys) {y = rest.0 ++ rest.1} rest.3,
    )

module _ (limits : FrameLimits) (s : Side) (taken : List (Side × ℕ)) (bytes : List ℕ)
    (ms : List (Side × List ℕ)) (rests : Side → List ℕ)
    (was : AreRecorded limits taken ms rests) where
  -- while the frame continues, nothing is recorded
  pub recorded_on : ((front back : List ℕ) → bytes ≡ front ++ back
      → HasFrame limits (rests s ++ front) → ⊥)
      → AreRecorded limits (taken ++ sent_by s bytes) ms (with_rest s (rests s ++ bytes) rests)
  recorded_on none = record {
    all = goes_on limits s taken bytes ms rests was.all (none bytes [] (sym (append-nil bytes)));
    so_far = λ front back e. elim (fronts taken (sent_by s bytes) front back e) [
      | inl within ↦ was.so_far front within.0 within.1
      | inr past ↦ (let sent = sent_front s bytes past.0 past.1 past.3 in (
        ms,
        [],
        with_rest s (rests s ++ sent.0) rests,
        sym (append-nil ms),
        subst (λ xs. HaveEnded limits xs ms (with_rest s (rests s ++ sent.0) rests))
            (sym (past.2 ∙ ap (λ ys. taken ++ ys) sent.2))
            (goes_on limits s taken sent.0 ms rests was.all (none sent.0 sent.1 sent.3)),
      ))
    ];
  }

  module _ (content : List ℕ) (is : IsFrame limits (rests s ++ bytes) content) where
    -- after a proper prefix of the frame's bytes nothing more is recorded; after all of them the
    -- frame is recorded
    at_front : (front back : List ℕ) → bytes ≡ front ++ back
        → (before : List (Side × List ℕ)) × (after : List (Side × List ℕ))
        × (others : Side → List ℕ)
        × (ms ++ (s, content) ∷ [] ≡ before ++ after)
        × HaveEnded limits (taken ++ sent_by s front) before others
    at_front front [] e = (
      ms ++ (s, content) ∷ [],
      [],
      with_rest s [] rests,
      sym (append-nil (ms ++ (s, content) ∷ [])),
      subst (λ xs. HaveEnded limits (taken ++ sent_by s xs) (ms ++ (s, content) ∷ [])
          (with_rest s [] rests)) (e ∙ append-nil front)
          (frame_ends limits s taken bytes content ms rests was.all is),
    )
    at_front front (b ∷ back) e = (
      ms,
      (s, content) ∷ [],
      with_rest s (rests s ++ front) rests,
      refl,
      goes_on limits s taken front ms rests was.all
          (no_item_before (frame_grammar limits) (rests s ++ front) back b content
          (subst (λ xs. IsFrame limits xs content) (ap (λ xs. rests s ++ xs) e
          ∙ sym (append_assoc (rests s) front (b ∷ back))) is)),
    )

    pub recorded_frame : AreRecorded limits (taken ++ sent_by s bytes) (ms ++ (s, content) ∷ [])
        (with_rest s [] rests)
    recorded_frame = record {
      all = frame_ends limits s taken bytes content ms rests was.all is;
      so_far = λ front back e. elim (fronts taken (sent_by s bytes) front back e) [
        | inl within ↦ (let got = was.so_far front within.0 within.1 in (
          got.0,
          got.1 ++ (s, content) ∷ [],
          got.2,
          ap (λ xs. xs ++ (s, content) ∷ []) got.3 ∙ append_assoc got.0 got.1 ((s, content) ∷ []),
          got.4,
        ))
        | inr past ↦ (let sent = sent_front s bytes past.0 past.1 past.3 in
            let got = at_front sent.0 sent.1 sent.3 in (
              got.0,
              got.1,
              got.2,
              got.3,
              subst (λ xs. HaveEnded limits xs got.0 got.2)
                  (sym (past.2 ∙ ap (λ ys. taken ++ ys) sent.2)) got.4,
            ))
      ];
    }

pub nothing_ended : (limits : FrameLimits) (bytes : List (Side × ℕ)) → [] ≡ bytes
    → HaveEnded limits bytes [] (λ side. [])
nothing_ended limits bytes e = subst (λ xs. HaveEnded limits xs [] (λ side. [])) e each
  where
    each : HaveEnded limits [] [] (λ side. [])
    each side =
        record {
          front = [];
          items = refl;
          whole = refl;
          no_item = nothing_has_no_item (frame_grammar limits) (no_empty_frame limits);
        }

pub nothing_recorded : (limits : FrameLimits) → AreRecorded limits [] [] (λ side. [])
nothing_recorded limits = record {
  all = nothing_ended limits [] refl;
  so_far = λ front back e.
      ([], [], (λ side. []), refl, nothing_ended limits front (none front back e));
}
  where
    none : (front back : List (Side × ℕ)) → [] ≡ front ++ back → [] ≡ front
    none [] back e = refl
    none (x ∷ front) back e = absurd (let f : ⊥ = cc in f)

pub rest_with : (s : Side) (rest : List ℕ) (rests : Side → List ℕ) → with_rest s rest rests s ≡ rest
rest_with Client rest rests = refl
rest_with Adapter rest rests = refl

no_frame_fault : (side : Side) (cause : FrameFault) → reported.Memory ≡ reported.Frame side cause
    → ⊥
no_frame_fault side cause e = cc

-- the bytes of a piece, in two parts
piece_parts : (side : Side) (piece : List ℕ) (used : ℕ) (taken left : List (Side × ℕ))
    → taken ++ (sent_by side piece ++ left)
    ≡ (taken ++ sent_by side (take used piece)) ++ (sent_by side (drop used piece) ++ left)
piece_parts side piece used taken left =
    let parts : sent_by side piece
    ≡ sent_by side (take used piece) ++ sent_by side (drop used piece) =
    ap (sent_by side) (sym (take-append-drop used piece))
    ∙ map-append (λ byte. (side, byte)) (take used piece) (drop used piece) in
    ap (λ xs. taken ++ (xs ++ left)) parts
    ∙ ap (λ xs. taken ++ xs)
    (append_assoc (sent_by side (take used piece)) (sent_by side (drop used piece)) left)
    ∙ sym (append_assoc taken (sent_by side (take used piece)) (sent_by side (drop used piece)
    ++ left))

module _ (first recorder new : RecorderReading) (pieces left : List (Side × List ℕ)) (side : Side)
    (piece : List ℕ) (used : ℕ)
    (was : RecordedSoFar first recorder pieces ((side, piece) ∷ left)) (same : recorder_limits new
    ≡ recorder_limits recorder) where
  -- the frame continued
  went_on : GoesOn side was.rests piece recorder new used
      → RecordedSoFar first new pieces ((side, drop used piece) ∷ left)
  went_on on =
      let limits = recorder_limits first in
      let all : take used piece ≡ piece =
      take_all used piece (let long : length piece ≤ used = omega (arith, on.all) in long) in
      let rest : List ℕ = was.rests side ++ piece in
      let is_open : IsOpen limits rest =
      subst (λ l. IsOpen l rest) (on.represents.limits side ∙ same ∙ was.limits)
      (subst (IsOpen (limits_of (framer_of new side))) (rest_with side rest was.rests)
      (on.represents.each side).is_open) in
      record {
        taken = was.taken ++ sent_by side (take used piece);
        messages = was.messages;
        rests = with_rest side (was.rests side ++ take used piece) was.rests;
        bytes_are = was.bytes_are ∙ piece_parts side piece used was.taken (bytes_of left);
        recorded = recorded_on limits side was.taken (take used piece) was.messages was.rests
            was.recorded (λ front back e has.
            open_has_no_item (frame_grammar limits) rest is_open
            (subst (HasFrame limits) (append_assoc (was.rests side) front back
            ∙ ap (λ xs. was.rests side ++ xs) (sym e ∙ all))
            (item_of_more (was.rests side ++ front) back has)));
        text_is = on.text ∙ was.text_is;
        represents = subst
            (λ xs. RepresentsRests new (with_rest side (was.rests side ++ xs) was.rests))
            (sym all) on.represents;
        limits = same ∙ was.limits;
      }

  -- a frame ended
  ended : HasRecorded side was.rests piece recorder new used
      → RecordedSoFar first new pieces ((side, drop used piece) ∷ left)
  ended has =
      let limits = recorder_limits first in
      let is = subst (λ l. IsFrame l (was.rests side ++ take used piece) has.content) was.limits
      has.is_frame in
      record {
        taken = was.taken ++ sent_by side (take used piece);
        messages = was.messages ++ (side, has.content) ∷ [];
        rests = with_rest side [] was.rests;
        bytes_are = was.bytes_are ∙ piece_parts side piece used was.taken (bytes_of left);
        recorded = recorded_frame limits side was.taken (take used piece) was.messages was.rests
            was.recorded has.content is;
        text_is = has.text ∙ ap (λ xs. xs ++ record_text side has.content) was.text_is
            ∙ append_assoc (text_of first) (recording_text was.messages)
            (record_text side has.content)
            ∙ ap (λ xs. text_of first ++ xs)
            (ap (λ xs. recording_text was.messages ++ xs)
            (sym (append-nil (record_text side has.content)))
            ∙ sym (flat_map-append (λ (m : Side × List ℕ). record_text m.0 m.1) was.messages
            ((side, has.content) ∷ [])));
        represents = has.represents;
        limits = same ∙ was.limits;
      }

  -- nothing was consumed
  unchanged : new ≡ recorder → RecordedSoFar first new pieces ((side, piece) ∷ left)
  unchanged e = subst (λ r. RecordedSoFar first r pieces ((side, piece) ∷ left)) (sym e) was

recorded_so_far : (first : RecorderReading) (pieces left : List (Side × List ℕ))
    (last : RecorderReading) → RepresentsRests first (λ side. [])
    → Records first pieces left last → RecordedSoFar first last pieces left
recorded_so_far first pieces _ _ represents begun = record {
  taken = [];
  messages = [];
  rests = λ side. [];
  bytes_are = refl;
  recorded = nothing_recorded (recorder_limits first);
  text_is = sym (append-nil (text_of first));
  represents = represents;
  limits = refl;
}
recorded_so_far first pieces left last represents (next_piece side records) =
    let was = recorded_so_far first pieces ((side, []) ∷ left) last represents records in
    record {
      taken = was.taken;
      messages = was.messages;
      rests = was.rests;
      bytes_are = was.bytes_are;
      recorded = was.recorded;
      text_is = was.text_is;
      represents = was.represents;
      limits = was.limits;
    }
recorded_so_far first pieces _ new represents
    (took {left = left} {recorder = recorder} side piece used records call) =
    let was = recorded_so_far first pieces ((side, piece) ∷ left) recorder represents records in
    elim (call.gives was.rests was.represents) [
      | inl on ↦ went_on first recorder new pieces left side piece used was call.limits on
      | inr has ↦ ended first recorder new pieces left side piece used was call.limits has
    ]
recorded_so_far first pieces _ new represents
    (refused {left = left} {recorder = recorder} side piece records call) =
    let was = recorded_so_far first pieces ((side, piece) ∷ left) recorder represents records in
    elim (call.gives was.rests was.represents) [
      | inl same ↦ unchanged first recorder new pieces left side piece 0 was call.limits same.1
      | inr faulty ↦ absurd (no_frame_fault side faulty.cause faulty.fault_is)
    ]

pub any_pieces : (first last : RecorderReading) (pieces left : List (Side × List ℕ))
    → RepresentsRests first (λ side. [])
    → Records first pieces left last → RecordedSoFar first last pieces left
any_pieces first last pieces left = recorded_so_far first pieces left last
