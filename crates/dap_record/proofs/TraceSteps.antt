-- The state of a trace after one more byte.
use Rattle.std.proofs.Common.{◌≡◌, ◌⊎◌, inl, inr, ℕ, ◌+◌, ◌≤◌, List, [], ◌∷◌, ◌++◌, length, drop}
use Rattle.std.proofs.Common.{refl, sym, ◌∙◌, ap, subst, arith}
use Rattle.std.proofs.lemmas.Bool.{cases_lt}
use Rattle.std.proofs.lemmas.List.{append_assoc, append-nil, length-append, map-append}
use Rattle.std.proofs.lemmas.List.{nil_from_length}
use Rattle.std.proofs.lemmas.List.Concat.{flat_map-append}
use Rattle.dap_frame.proofs.Ends.{fault_stays, one_more, open_has_no_item, faulty_has_no_item}
use Rattle.dap_frame.proofs.Ends.{open_not_faulty, item_not_open, item_of_more}
use Rattle.dap_frame.proofs.ItemStreams.{one_stream, items_append, one_item_alone}
use Rattle.dap_frame.proofs.Frames.{frame_grammar, open_at_first}
use Rattle.dap_recording.specs.Trace.{pieces_of}
use Rattle.dap_recording.proofs.TracePieces.{parts_of, piece_grammar}
use Rattle.dap_frame.specs.declared.fault.FrameFault.{FrameFault}
use Rattle.dap_frame.specs.declared.fault.FrameFault.TheVariants.{Cut}
use Rattle.dap_frame.specs.declared.limits.FrameLimits.{FrameLimits}
use Rattle.dap_frame.specs.Frame.{HasFrame, IsOpen, FailsAt, Stream}
use Rattle.dap_frame.specs.Limits.{IsSound}
use Rattle.dap_frame.specs.Lines.{number_of}
use Rattle.dap_recording.specs.declared.recorder_fault.RecorderFault.TheVariants.{Frame}
use Rattle.dap_recording.specs.declared.trace_fault.TraceCause.TheVariants as trace_cause
use Rattle.dap_recording.specs.Marker.{marker}
use Rattle.dap_recording.specs.RecordedTraces.{AreRecorded, bytes_of, of_side}
use Rattle.dap_recording.specs.RecorderReading.{with_rest}
use Rattle.dap_recording.specs.Trace.{IsCount, IsOpenPiece, IsPiece, IsTrace}
use Rattle.dap_recording.proofs.Fronts.{begins_so}
use Rattle.dap_recording.proofs.RecorderRuns.{of_side-append, recorded_frame, recorded_on}
use Rattle.dap_recording.proofs.RecorderRuns.{same_side}
use Rattle.dap_tree.specs.declared.side.Side.{Side}
use Rattle.dap_tree.specs.declared.side.Side.TheVariants.{Client, Adapter}
use Rattle.dap_input.specs.declared.limits.Limits.{Limits}
use Rattle.dap_input.specs.declared.refused.Refused.{Refused}
use Rattle.dap_input.specs.declared.refused.Refused.TheVariants.{Trace, Recorder}
use Rattle.dap_record.specs.Tracing.{ByteShows, EndsInside, IsInRaw, IsOfEnd, IsOpenWith}
use Rattle.dap_record.specs.Tracing.{IsRecordedAs, SoFar, before_marker, in_count, in_raw}
use Rattle.dap_record.specs.Tracing.{next_piece, of_frame, of_piece, sent_by, a_piece}
use Rattle.dap_record.specs.Tracing.{a_client_frame, an_adapter_frame}
use Rattle.dap_record.proofs.TracePieces.{count_not_raw, one_raw, open_of, opened, raw_goes_on}

-- ---- bytes that the sides sent

pub with_open : (limits : FrameLimits) (side : Side) (rest : List ℕ) (rests : Side → List ℕ)
    → IsOpen limits rest → ((s : Side) → IsOpen limits (rests s))
    → (s : Side) → IsOpen limits (with_rest side rest rests s)
with_open limits Client rest rests mine others Client = mine
with_open limits Client rest rests mine others Adapter = others Adapter
with_open limits Adapter rest rests mine others Client = others Client
with_open limits Adapter rest rests mine others Adapter = mine

module _ (limits : FrameLimits) (taken : List (Side × ℕ)) (messages : List (Side × List ℕ))
    (rests : Side → List ℕ) (was : AreRecorded limits taken messages rests) where
  -- No frame ends while a side's rest remains incomplete.
  pub recorded_open : (side : Side) (bytes : List ℕ) → IsOpen limits (rests side ++ bytes)
      → AreRecorded limits (taken ++ sent_by side bytes) messages
      (with_rest side (rests side ++ bytes) rests)
  recorded_open side bytes is_open =
      recorded_on limits side taken bytes messages rests was (λ front back e has.
      open_has_no_item (frame_grammar limits) (rests side ++ bytes) is_open
      (subst (HasFrame limits) (append_assoc (rests side) front back
      ∙ ap (λ xs. rests side ++ xs) (sym e)) (item_of_more (rests side ++ front) back has)))

  -- A byte of a side that proves an error is not followed by an incomplete rest.
  pub faulty_later : (side : Side) (byte : ℕ) (others : List (Side × ℕ))
      (more : List (Side × List ℕ)) (later : Side → List ℕ) (fault : FrameFault) (place : ℕ)
      → AreRecorded limits (taken ++ (side, byte) ∷ others) more later → IsOpen limits (later side)
      → FailsAt limits (rests side ++ byte ∷ []) fault place → ⊥
  faulty_later side byte others more later fault place recorded is_open shows =
      let tail : List ℕ = byte ∷ of_side side others in
      let grown : of_side side (taken ++ (side, byte) ∷ others) ≡ of_side side taken ++ tail =
      of_side-append side taken ((side, byte) ∷ others)
      ∙ ap (λ xs. of_side side taken ++ xs) (of_side-append side ((side, byte) ∷ []) others
      ∙ ap (λ xs. xs ++ of_side side others) (same_side side (byte ∷ []))) in
      let longer = fault_stays (rests side ++ byte ∷ []) (of_side side others) fault place shows in
      let shown : FailsAt limits (rests side ++ tail) fault place =
      subst (λ xs. FailsAt limits xs fault place)
      (append_assoc (rests side) (byte ∷ []) (of_side side others)) longer in
      let stream : Stream limits (of_side side taken ++ tail) (of_side side messages) (rests side
      ++ tail) = record {
        front = (was.all side).front;
        items = (was.all side).items;
        whole = ap (λ xs. xs ++ tail) (was.all side).whole
            ∙ append_assoc (was.all side).front (rests side) tail;
        no_item = faulty_has_no_item (frame_grammar limits) (rests side ++ tail) fault place shown;
      } in
      let same = (one_stream (frame_grammar limits) (of_side side taken ++ tail)
      (of_side side messages) (of_side side more) (rests side ++ tail) (later side) stream
      (subst (λ xs. Stream limits xs (of_side side more) (later side)) grown
      (recorded.all side))).1 in
      open_not_faulty (frame_grammar limits) (later side) fault place is_open
      (subst (λ xs. FailsAt limits xs fault place) same shown)

  -- The bytes that the sides sent, after one more byte.
  pub record SentLater (side : Side) (byte : ℕ) : Type 0 where
    pub later : List (Side × List ℕ)
    pub its_rests : Side → List ℕ
    pub its_recorded : AreRecorded limits (taken ++ sent_by side (byte ∷ [])) later its_rests
    pub its_open : (s : Side) → IsOpen limits (its_rests s)

  module _ (sound : IsSound limits) (are_open : (s : Side)
      → IsOpen limits (rests s)) (side : Side) (byte : ℕ) where
    pub sent_later : SentLater side byte
        ⊎ ((fault : FrameFault) × (place : ℕ)
        × FailsAt limits (rests side ++ byte ∷ []) fault place)
    sent_later =
        elim (one_more (frame_grammar limits) (rests side) byte (are_open side)) [
          | inl has ↦ inl (record {
            later = messages ++ (side, has.0) ∷ [];
            its_rests = with_rest side [] rests;
            its_recorded =
                recorded_frame limits side taken (byte ∷ []) messages rests was has.0 has.1;
            its_open = with_open limits side [] rests
                (open_at_first limits (let low = sound.header_low in omega arith)) are_open;
          })
          | inr other ↦ elim other [
            | inl faulty ↦ inr faulty
            | inr on ↦ inl (record {
              later = messages;
              its_rests = with_rest side (rests side ++ byte ∷ []) rests;
              its_recorded = recorded_open side (byte ∷ []) on;
              its_open = with_open limits side (rests side ++ byte ∷ []) rests on are_open;
            })
          ]
        ]

-- ---- bytes received

-- The bytes sent, with one more piece.
pub sent_push : (pieces : List (Side × List ℕ)) (side : Side) (raw : List ℕ)
    → bytes_of pieces ++ sent_by side raw ≡ bytes_of (pieces ++ (side, raw) ∷ []) ++ []
sent_push pieces side raw =
    ap (λ xs. bytes_of pieces ++ xs) (sym (append-nil (sent_by side raw)))
    ∙ sym (flat_map-append (λ (p : Side × List ℕ). sent_by p.0 p.1) pieces ((side, raw) ∷ []))
    ∙ sym (append-nil (bytes_of (pieces ++ (side, raw) ∷ [])))

-- The bytes sent, with more raw bytes.
pub sent_on : (before raws : List (Side × ℕ)) (side : Side) (raw more : List ℕ)
    → raws ≡ sent_by side raw
    → (before ++ raws) ++ sent_by side more ≡ before ++ sent_by side (raw ++ more)
sent_on before raws side raw more is =
    append_assoc before raws (sent_by side more) ∙ ap (λ xs. before ++ (xs ++ sent_by side more)) is
    ∙ ap (λ xs. before ++ xs) (sym (map-append (λ byte. (side, byte)) raw more))

module _ (limits : FrameLimits) (bytes front : List ℕ) (pieces : List (Side × List ℕ))
    (is_trace : IsTrace front pieces) (side : Side) (raw : List ℕ)
    (messages : List (Side × List ℕ)) (rests : Side
    → List ℕ) (are_recorded : AreRecorded limits (bytes_of pieces ++ sent_by side raw) messages
    rests) (are_open : (s : Side) → IsOpen limits (rests s)) where
  -- The last piece has ended.
  abbrev pub with_piece : (last : List ℕ) → IsPiece last side raw → bytes ≡ front ++ last
      → SoFar limits bytes
  with_piece last is split = record {
    front = front ++ last;
    pieces = pieces ++ (side, raw) ∷ [];
    trace = items_append pieces_of front last pieces ((side, raw) ∷ []) is_trace
        (one_item_alone pieces_of last (side, raw) is);
    rest = [];
    split = split ∙ sym (append-nil (front ++ last));
    raw = [];
    of_rest = before_marker refl;
    messages = messages;
    rests = rests;
    recorded = subst (λ xs. AreRecorded limits xs messages rests) (sent_push pieces side raw)
        are_recorded;
    are_open = are_open;
  }

  -- More raw bytes must follow.
  abbrev pub with_raw : (rest : List ℕ) → IsInRaw rest side raw → bytes ≡ front ++ rest
      → SoFar limits bytes
  with_raw rest is split = record {
    front = front;
    pieces = pieces;
    trace = is_trace;
    rest = rest;
    split = split;
    raw = sent_by side raw;
    of_rest = in_raw side raw is;
    messages = messages;
    rests = rests;
    recorded = are_recorded;
    are_open = are_open;
  }

-- The count has not ended: the rest contains no raw bytes.
pub data IsBeforeRaw (rest : List ℕ) : Type 0 where
  at_marker : rest ≡ [] → IsBeforeRaw rest
  at_count : (side : Side) (text : List ℕ) → rest ≡ marker side ∷ text → (text ≡ []) ⊎ IsCount text
      → IsBeforeRaw rest

before_not_raw : (rest : List ℕ) (side : Side) (raw : List ℕ) → IsBeforeRaw rest
    → IsInRaw rest side raw → ⊥
before_not_raw rest side raw (at_marker none) is =
    omega (
      arith,
      ap length (sym none ∙ is.rest_is),
      length-append (marker side ∷ is.text) (10 ∷ raw),
    )
before_not_raw rest side raw (at_count s text e begun) is =
    count_not_raw rest s side text raw e begun is

-- After one more byte, the count has at most just ended.
just_ended : (rest : List ℕ) (side : Side) (text raw : List ℕ) (byte : ℕ) → IsBeforeRaw rest
    → rest ++ byte ∷ [] ≡ (marker side ∷ text) ++ 10 ∷ raw → IsCount text
    → length raw ≤ number_of text → raw ≡ []
just_ended rest side text raw byte before is count few =
    let line : List ℕ = marker side ∷ text in
    let long : length rest + 1 ≡ length line + 1 + length raw =
    omega (arith, ap length is, length-append rest (byte ∷ []), length-append line (10 ∷ raw))
    in
    elim (cases_lt 0 (length raw)) [
      | inr none ↦ nil_from_length raw (omega (arith, none))
      | inl some ↦ (let inside : length line + 1 ≤ length rest = omega (arith, long, some) in
          let begins = begins_so rest (byte ∷ []) line raw 10 is inside in
          absurd (before_not_raw rest side (drop (length line + 1) rest) before (record {
            text = text;
            rest_is = begins;
            is_count = count;
            to_come = omega (
              arith,
              ap length begins,
              length-append line (10 ∷ drop (length line + 1) rest),
              long,
              few,
            );
          })))
    ]

module _ (limits : FrameLimits) (sound : IsSound limits) (bytes : List ℕ) (byte : ℕ)
    (was : SoFar limits bytes) where
  -- The bytes received with one more byte, or the error that this byte proves.
  abbrev pub Later : Type 0
  Later = SoFar limits (bytes ++ byte ∷ []) ⊎ ((refused : Refused) × ByteShows was byte refused)

  whole : bytes ++ byte ∷ [] ≡ was.front ++ (was.rest ++ byte ∷ [])
  whole = ap (λ xs. xs ++ byte ∷ []) was.split ∙ append_assoc was.front was.rest (byte ∷ [])

  -- The piece that the byte ends.
  piece_whole : (side : Side) (raw front back : List ℕ) → byte ∷ [] ≡ front ++ back
      → IsPiece (was.rest ++ front) side (raw ++ front)
      → IsPiece (was.rest ++ byte ∷ []) side (raw ++ byte ∷ [])
  piece_whole side raw front [] e is =
      subst (λ f. IsPiece (was.rest ++ f) side (raw ++ f)) (sym (e ∙ append-nil front)) is
  piece_whole side raw front (b ∷ back) e is =
      let none : front ≡ [] =
      nil_from_length front (omega (arith, ap length e, length-append front (b ∷ back))) in
      let ended = subst (λ f. IsPiece (was.rest ++ f) side (raw ++ f)) none is in
      absurd (item_not_open piece_grammar (was.rest ++ []) [] (side, raw ++ []) ended
      (subst IsOpenPiece (sym (append-nil (was.rest ++ []) ∙ append-nil was.rest))
      (open_of was.of_rest)))

  raw_later : (side : Side) (raw : List ℕ) → was.raw ≡ sent_by side raw → IsInRaw was.rest side raw
      → Later
  raw_later side raw are is =
      elim (sent_later limits (bytes_of was.pieces ++ was.raw) was.messages was.rests was.recorded
      sound was.are_open side byte) [
        | inr faulty ↦ inr (
          Recorder (next_piece was) (Frame side faulty.0),
          of_frame side raw faulty.0 is faulty.2,
        )
        | inl sent ↦
            (let recorded = subst (λ xs. AreRecorded limits xs sent.later sent.its_rests)
            (sent_on (bytes_of was.pieces) was.raw side raw (byte ∷ []) are) sent.its_recorded in
            elim (raw_goes_on was.rest side raw (byte ∷ []) is) [
              | inl on ↦ inl
                  (with_raw limits (bytes ++ byte ∷ []) was.front was.pieces was.trace side (raw
                  ++ byte ∷ []) sent.later sent.its_rests recorded sent.its_open (was.rest ++ byte
                  ∷ []) on whole)
              | inr ended ↦ inl
                  (with_piece limits (bytes ++ byte ∷ []) was.front was.pieces was.trace side (raw
                  ++ byte ∷ []) sent.later sent.its_rests recorded sent.its_open (was.rest ++ byte
                  ∷ [])
                  (piece_whole side raw ended.0 ended.1 ended.2 ended.3) whole)
            ])
      ]

  -- No raw bytes were sent.
  module _ (none : was.raw ≡ []) (before : IsBeforeRaw was.rest) where
    none_sent : (side : Side)
        → AreRecorded limits (bytes_of was.pieces ++ sent_by side []) was.messages was.rests
    none_sent side =
        subst (λ xs. AreRecorded limits (bytes_of was.pieces ++ xs) was.messages was.rests) none
        was.recorded

    open_later : (xs : List (Side × ℕ)) → IsOpenWith (was.rest ++ byte ∷ []) xs
        → IsOpenWith (was.rest ++ byte ∷ []) []
    open_later _ (before_marker e) = before_marker e
    open_later _ (in_count side text e begun) = in_count side text e begun
    open_later _ (in_raw side raw is) =
        let empty : raw ≡ [] =
        just_ended was.rest side is.text raw byte before is.rest_is is.is_count
        (let short = is.to_come in omega arith) in
        in_raw side [] (subst (IsInRaw (was.rest ++ byte ∷ []) side) empty is)

    count_later : Later
    count_later =
        elim (one_more piece_grammar was.rest byte (open_of was.of_rest)) [
          | inl has ↦ (let side : Side = has.0.0 in
              let is = parts_of (was.rest ++ byte ∷ []) side has.0.1 has.1 in
              let few = is.says in
              let empty : has.0.1 ≡ [] =
              just_ended was.rest side is.count has.0.1 byte before is.bytes_are is.is_count
              (omega (arith, few)) in
              inl (with_piece limits (bytes ++ byte ∷ []) was.front was.pieces was.trace side []
              was.messages was.rests (none_sent side) was.are_open (was.rest ++ byte ∷ [])
              (subst (IsPiece (was.rest ++ byte ∷ []) side) empty has.1) whole))
          | inr other ↦ elim other [
            | inl faulty ↦ inr (Trace (next_piece was) faulty.0, of_piece faulty.0 faulty.2)
            | inr on ↦ inl (record {
              front = was.front;
              pieces = was.pieces;
              trace = was.trace;
              rest = was.rest ++ byte ∷ [];
              split = whole;
              raw = [];
              of_rest = (let now = opened (was.rest ++ byte ∷ []) on in open_later now.0 now.1);
              messages = was.messages;
              rests = was.rests;
              recorded = subst
                  (λ xs. AreRecorded limits (bytes_of was.pieces ++ xs) was.messages was.rests) none
                  was.recorded;
              are_open = was.are_open;
            })
          ]
        ]

  by_rest : (xs : List (Side × ℕ)) → was.raw ≡ xs → IsOpenWith was.rest xs → Later
  by_rest xs e (before_marker none) = count_later e (at_marker none)
  by_rest xs e (in_count side text is begun) = count_later e (at_count side text is begun)
  by_rest xs e (in_raw side raw is) = raw_later side raw e is

  pub byte_later : Later
  byte_later = by_rest was.raw refl was.of_rest

-- ---- at the end

module _ (limits : Limits) (bytes : List ℕ) (was : SoFar limits.frame bytes) (short : length bytes
    ≤ limits.input) where
  -- The trace ends between two pieces, and the bytes of each side end between two frames.
  pub recorded_whole : was.rest ≡ [] → ((side : Side) → was.rests side ≡ [])
      → IsRecordedAs limits bytes was.messages
  recorded_whole none all =
      let raw : was.raw ≡ [] = one_raw was.of_rest (before_marker none) in
      let recorded =
      subst (λ xs. AreRecorded limits.frame xs was.messages was.rests)
      (ap (λ xs. bytes_of was.pieces ++ xs) raw ∙ append-nil (bytes_of was.pieces)) was.recorded
      in
      record {
        short = short;
        pieces = was.pieces;
        trace = subst (λ t. IsTrace t was.pieces)
            (sym (was.split ∙ ap (λ t. was.front ++ t) none ∙ append-nil was.front)) was.trace;
        recorded = record {
          all = λ side. subst
              (Stream limits.frame (of_side side (bytes_of was.pieces)) (of_side side was.messages))
              (all side) (recorded.all side);
          so_far = recorded.so_far;
        };
      }

  each : was.rests Client ≡ [] → was.rests Adapter ≡ [] → (side : Side) → was.rests side ≡ []
  each client adapter Client = client
  each client adapter Adapter = adapter

  -- Either this holds, or the trace ends inside a piece or a frame.
  pub at_the_end : IsRecordedAs limits bytes was.messages
      ⊎ ((refused : Refused) × IsOfEnd refused × EndsInside was refused)
  at_the_end = by_piece was.rest refl
    where
      by_adapter : (r : List ℕ) → was.rests Adapter ≡ r → was.rest ≡ [] → was.rests Client ≡ []
          → IsRecordedAs limits bytes was.messages
          ⊎ ((refused : Refused) × IsOfEnd refused × EndsInside was refused)
      by_adapter [] e none client = inl (recorded_whole none (each client e))
      by_adapter (b ∷ r) e none client =
          inr (
            Recorder (length was.pieces) (Frame Adapter Cut),
            tt,
            an_adapter_frame none client (λ f. (let s = sym e ∙ f in let g : ⊥ = cc in g)),
          )

      by_client : (r : List ℕ) → was.rests Client ≡ r → was.rest ≡ []
          → IsRecordedAs limits bytes was.messages
          ⊎ ((refused : Refused) × IsOfEnd refused × EndsInside was refused)
      by_client [] e none = by_adapter (was.rests Adapter) refl none e
      by_client (b ∷ r) e none =
          inr (
            Recorder (length was.pieces) (Frame Client Cut),
            tt,
            a_client_frame none (λ f. (let s = sym e ∙ f in let g : ⊥ = cc in g)),
          )

      by_piece : (r : List ℕ) → was.rest ≡ r
          → IsRecordedAs limits bytes was.messages
          ⊎ ((refused : Refused) × IsOfEnd refused × EndsInside was refused)
      by_piece [] e = by_client (was.rests Client) refl e
      by_piece (b ∷ r) e =
          inr (
            Trace (next_piece was) trace_cause.Cut,
            tt,
            a_piece (λ f. (let s = sym e ∙ f in let g : ⊥ = cc in g)),
          )
