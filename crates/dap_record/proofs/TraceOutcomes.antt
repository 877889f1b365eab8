-- A trace has exactly one outcome: it is recorded or rejected.
use Rattle.std.proofs.Common.{◌≡◌, ◌⊎◌, inl, inr, ℕ, ◌+◌, ◌<◌, ◌≤◌, List, [], ◌∷◌, ◌++◌, length}
use Rattle.std.proofs.Common.{drop, refl, sym, ◌∙◌, ap, ap₂, subst, arith}
use Rattle.std.proofs.lemmas.Bool.{cases_lt}
use Rattle.std.proofs.lemmas.List.{append_assoc, append-nil, append_cancel_left, length-append}
use Rattle.std.proofs.lemmas.List.Concat.{flat_map-append}
use Rattle.dap_frame.proofs.Ends.{one_fault, fault_stays, open_not_faulty, item_not_faulty}
use Rattle.dap_frame.proofs.Ends.{item_not_open}
use Rattle.dap_frame.proofs.ItemStreams.{begun_not_open, one_stream, two_lists}
use Rattle.dap_frame.proofs.Frames.{frame_grammar, open_at_first}
use Rattle.dap_recording.proofs.TracePieces.{one_piece, piece_grammar}
use Rattle.dap_frame.specs.declared.fault.FrameFault.TheVariants.{Cut}
use Rattle.dap_frame.specs.declared.limits.FrameLimits.{FrameLimits}
use Rattle.dap_frame.specs.Frame.{FailsAt}
use Rattle.dap_recording.specs.declared.recorder_fault.RecorderFault.TheVariants.{Frame}
use Rattle.dap_recording.specs.declared.trace_fault.TraceCause.{TraceCause}
use Rattle.dap_recording.specs.declared.trace_fault.TraceCause.TheVariants as trace_cause
use Rattle.dap_recording.specs.RecordedTraces.{AreRecorded, bytes_of, of_side}
use Rattle.dap_recording.specs.Trace.{IsOpenPiece, IsPiece, IsTrace, ShowsTraceFault}
use Rattle.dap_recording.proofs.Fronts.{begins_so, heads}
use Rattle.dap_recording.proofs.RecorderRuns.{nothing_recorded}
use Rattle.dap_recording.proofs.RecordedUnique.{one_recorded}
use Rattle.dap_tree.specs.declared.side.Side.{Side}
use Rattle.dap_tree.specs.declared.side.Side.TheVariants.{Client, Adapter}
use Rattle.dap_frame.proofs.Fronts.{same_front}
use Rattle.dap_input.specs.declared.limits.Limits.{Limits}
use Rattle.dap_input.specs.declared.refused.Refused.{Refused}
use Rattle.dap_input.specs.declared.refused.Refused.TheVariants.{TraceTooLong, Trace, Recorder}
use Rattle.dap_input.specs.Limits.{AreSound}
use Rattle.dap_record.specs.Tracing.{ByteShows, EndsInside, IsInRaw, IsOfEnd, IsOpenWith}
use Rattle.dap_record.specs.Tracing.{IsRecordedAs, IsTraceRefused, SoFar, TracesHaveOneOutcome}
use Rattle.dap_record.specs.Tracing.{TraceRefusalStays}
use Rattle.dap_record.specs.Tracing.{before_marker, next_piece, of_frame, of_piece, sent_by, a_piece}
use Rattle.dap_record.specs.Tracing.{a_client_frame, an_adapter_frame, at_byte, past_limit, at_end}
use Rattle.dap_record.specs.Tracing as tracing
use Rattle.dap_record.proofs.TracePieces.{one_in_raw, one_raw, one_split, open_of, raw_goes_on}
use Rattle.dap_record.proofs.TracePieces.{raw_open, raw_shows_nothing}
use Rattle.dap_record.proofs.TraceSteps.{at_the_end, byte_later, faulty_later, sent_on}

-- ---- bytes received have one reading

module _ (limits : FrameLimits) (bytes others : List ℕ) (same : bytes
    ≡ others) (a : SoFar limits bytes) (b : SoFar limits others) where
  split : (a.pieces ≡ b.pieces) × (a.rest ≡ b.rest)
  split = one_split a.front b.front a.rest b.rest a.pieces b.pieces a.trace b.trace (sym a.split
      ∙ same ∙ b.split) (open_of a.of_rest) (open_of b.of_rest)

  taken : bytes_of a.pieces ++ a.raw ≡ bytes_of b.pieces ++ b.raw
  taken = ap₂ (λ (ps : List (Side × List ℕ)) (xs : List (Side × ℕ)). bytes_of ps ++ xs) split.0
      (one_raw a.of_rest (subst (λ r. IsOpenWith r b.raw) (sym split.1) b.of_rest))

  recorded : AreRecorded limits (bytes_of a.pieces ++ a.raw) b.messages b.rests
  recorded = subst (λ xs. AreRecorded limits xs b.messages b.rests) (sym taken) b.recorded

  pub same_messages : a.messages ≡ b.messages
  same_messages =
      one_recorded limits (bytes_of a.pieces ++ a.raw) a.messages b.messages a.rests b.rests
      a.recorded recorded

  same_rests : (side : Side) → a.rests side ≡ b.rests side
  same_rests side =
      (one_stream (frame_grammar limits) (of_side side (bytes_of a.pieces ++ a.raw))
      (of_side side a.messages) (of_side side b.messages) (a.rests side) (b.rests side)
      (a.recorded.all side) (recorded.all side)).1

  same_number : next_piece a ≡ next_piece b
  same_number = ap (λ (ps : List (Side × List ℕ)). length ps + 1) split.0

  -- A byte proves one error.
  one_byte : (byte : ℕ) (refused because : Refused) → ByteShows a byte refused
      → ByteShows b byte because → refused ≡ because
  one_byte byte _ _ (of_piece cause {place = i} shows) (of_piece other {place = j} shown) =
      let one = one_fault piece_grammar (a.rest ++ byte ∷ []) cause other i j shows
      (subst (λ r. ShowsTraceFault (r ++ byte ∷ []) other j) (sym split.1) shown) in
      ap₂ Trace same_number one.0
  one_byte byte _ _ (of_piece cause {place = i} shows) (of_frame side raw fault is shown) =
      absurd (raw_shows_nothing b.rest side raw (byte ∷ []) cause i is
      (subst (λ r. ShowsTraceFault (r ++ byte ∷ []) cause i) split.1 shows))
  one_byte byte _ _ (of_frame side raw fault is shown) (of_piece cause {place = i} shows) =
      absurd (raw_shows_nothing a.rest side raw (byte ∷ []) cause i is
      (subst (λ r. ShowsTraceFault (r ++ byte ∷ []) cause i) (sym split.1) shows))
  one_byte byte _ _ (of_frame side raw fault {place = i} is shows)
      (of_frame s other f {place = j} has shown) =
      let one = one_in_raw a.rest side s raw other is
      (subst (λ r. IsInRaw r s other) (sym split.1) has) in
      let later : FailsAt limits (a.rests side ++ byte ∷ []) f j =
      subst (λ r. FailsAt limits (r ++ byte ∷ []) f j) (sym (same_rests side))
      (subst (λ t. FailsAt limits (b.rests t ++ byte ∷ []) f j) (sym one.0) shown) in
      let fault_is =
      (one_fault (frame_grammar limits) (a.rests side ++ byte ∷ []) fault f i j shows later).0
      in
      ap₂ Recorder same_number (ap₂ Frame one.0 fault_is)

  -- The trace ends inside only one of a piece, a client frame and an adapter frame.
  one_end : (refused because : Refused) → EndsInside a refused → EndsInside b because
      → refused ≡ because
  one_end _ _ (a_piece some) (a_piece more) = ap (λ n. Trace n trace_cause.Cut) same_number
  one_end _ _ (a_piece some) (a_client_frame none client) = absurd (some (split.1 ∙ none))
  one_end _ _ (a_piece some) (an_adapter_frame none client adapter) = absurd (some (split.1 ∙ none))
  one_end _ _ (a_client_frame none client) (a_piece some) = absurd (some (sym split.1 ∙ none))
  one_end _ _ (a_client_frame none client) (a_client_frame e c) =
      ap (λ (ps : List (Side × List ℕ)). Recorder (length ps) (Frame Client Cut)) split.0
  one_end _ _ (a_client_frame none client) (an_adapter_frame e c adapter) =
      absurd (client (same_rests Client ∙ c))
  one_end _ _ (an_adapter_frame none client adapter) (a_piece some) =
      absurd (some (sym split.1 ∙ none))
  one_end _ _ (an_adapter_frame none client adapter) (a_client_frame e c) =
      absurd (c (sym (same_rests Client) ∙ client))
  one_end _ _ (an_adapter_frame none client adapter) (an_adapter_frame e c d) =
      ap (λ (ps : List (Side × List ℕ)). Recorder (length ps) (Frame Adapter Cut)) split.0

-- ---- after a byte that proves an error, later bytes do not matter

module _ (limits : FrameLimits) (front more whole : List ℕ) (byte : ℕ) (is : whole
    ≡ front ++ byte ∷ more) (a : SoFar limits front) (b : SoFar limits whole) where
  parts : a.front ++ (a.rest ++ byte ∷ more) ≡ b.front ++ b.rest
  parts = sym (append_assoc a.front a.rest (byte ∷ more)) ∙ ap (λ t. t ++ byte ∷ more) (sym a.split)
      ∙ sym is ∙ b.split

  -- The side sent the byte.
  abbrev BehindRaw : Side → Type 0
  BehindRaw side = (others : List (Side × ℕ))
      × (bytes_of b.pieces ++ b.raw ≡ (bytes_of a.pieces ++ a.raw) ++ (side, byte) ∷ others)

  first_byte : (more front back : List ℕ) → byte ∷ more ≡ front ++ back → (front ≡ [] → ⊥)
      → (rest : List ℕ) × (front ≡ byte ∷ rest)
  first_byte more [] back e some = absurd (some refl)
  first_byte more (x ∷ front) back e some =
      (front, ap (λ y. y ∷ front) (sym (heads byte x more (front ++ back) e).0))

  module _ (later : List (Side × List ℕ)) (between : List ℕ) (pieces_are : b.pieces
      ≡ a.pieces ++ later) (rest_is : a.rest ++ byte ∷ more ≡ between ++ b.rest) where
    no_piece : (cause : TraceCause) (place : ℕ) → (ps : List (Side × List ℕ)) → IsTrace between ps
        → ShowsTraceFault (a.rest ++ byte ∷ []) cause place → ⊥
    no_piece cause place [] none shows =
        open_not_faulty piece_grammar b.rest cause place (open_of b.of_rest)
        (subst (λ t. ShowsTraceFault t cause place) (append_assoc a.rest (byte ∷ []) more ∙ rest_is
        ∙ ap (λ t. t ++ b.rest) none)
        (fault_stays (a.rest ++ byte ∷ []) more cause place shows))
    no_piece cause place (p ∷ ps) (first, beyond, is_piece, split_is, others) shows =
        item_not_faulty piece_grammar first (beyond ++ b.rest) p cause place is_piece
        (subst (λ t. ShowsTraceFault t cause place) (append_assoc a.rest (byte ∷ []) more ∙ rest_is
        ∙ ap (λ t. t ++ b.rest) split_is ∙ append_assoc first beyond b.rest)
        (fault_stays (a.rest ++ byte ∷ []) more cause place shows))

    module _ (side : Side) (raw : List ℕ) (in_raw : IsInRaw a.rest side raw) where
      a_raw : a.raw ≡ sent_by side raw
      a_raw = one_raw a.of_rest (tracing.in_raw side raw in_raw)

      some_front : (xs : List ℕ) → IsPiece (a.rest ++ xs) side (raw ++ xs) → xs ≡ [] → ⊥
      some_front xs is_piece none =
          let ended = subst (λ t. IsPiece (a.rest ++ t) side (raw ++ t)) none is_piece in
          item_not_open piece_grammar (a.rest ++ []) [] (side, (raw ++ [])) ended
          (subst IsOpenPiece (sym (append-nil (a.rest ++ []) ∙ append-nil a.rest))
          (open_of a.of_rest))

      raw_behind : (ps : List (Side × List ℕ)) → later ≡ ps → IsTrace between ps → BehindRaw side
      raw_behind [] none empty =
          let rest : a.rest ++ byte ∷ more ≡ b.rest = rest_is ∙ ap (λ t. t ++ b.rest) empty in
          elim (raw_goes_on a.rest side raw (byte ∷ more) in_raw) [
            | inl on ↦ (let b_raw : b.raw
                ≡ sent_by side (raw ++ byte ∷ more) =
                one_raw b.of_rest
                (subst (λ r. IsOpenWith r (sent_by side (raw ++ byte ∷ more))) rest
                (tracing.in_raw side (raw ++ byte ∷ more) on)) in (
                  sent_by side more,
                  ap₂ (λ (ps : List (Side × List ℕ)) (xs : List (Side × ℕ)). bytes_of ps ++ xs)
                      (pieces_are ∙ ap (λ ps. a.pieces ++ ps) none ∙ append-nil a.pieces) b_raw
                      ∙ sym (sent_on (bytes_of a.pieces) a.raw side raw (byte ∷ more) a_raw),
                ))
            | inr ended ↦ absurd
                (item_not_open piece_grammar (a.rest ++ ended.0) ended.1 (side, (raw ++ ended.0))
                ended.3
                (subst IsOpenPiece (sym rest ∙ ap (λ t. a.rest ++ t) ended.2
                ∙ sym (append_assoc a.rest ended.0 ended.1)) (open_of b.of_rest)))
          ]
      raw_behind (p ∷ ps) some (first, beyond, is_piece, split_is, others) =
          let rest : a.rest ++ byte ∷ more ≡ first ++ (beyond ++ b.rest) =
          rest_is ∙ ap (λ t. t ++ b.rest) split_is ∙ append_assoc first beyond b.rest in
          elim (raw_goes_on a.rest side raw (byte ∷ more) in_raw) [
            | inl on ↦ absurd
                (item_not_open piece_grammar first (beyond ++ b.rest) p is_piece
                (subst IsOpenPiece rest (raw_open on)))
            | inr ended ↦ (let whole_is : (a.rest ++ ended.0) ++ ended.1
                ≡ first ++ (beyond ++ b.rest) =
                append_assoc a.rest ended.0 ended.1 ∙ ap (λ t. a.rest ++ t) (sym ended.2) ∙ rest in
                let one = one_piece (a.rest ++ ended.0) first ended.1 (beyond ++ b.rest) side p.0
                (raw ++ ended.0) p.1 whole_is ended.3 is_piece in
                let begins = first_byte more ended.0 ended.1 ended.2 (some_front ended.0 ended.3) in
                let mine : sent_by p.0 p.1 ≡ sent_by side (raw ++ byte ∷ begins.0) =
                ap₂ sent_by (sym one.1) (sym one.2 ∙ ap (λ t. raw ++ t) begins.1) in
                let tail : List (Side × ℕ) = bytes_of ps ++ b.raw in (
                  sent_by side begins.0 ++ tail,
                  ap (λ (xs : List (Side × List ℕ)). bytes_of xs ++ b.raw) (pieces_are
                      ∙ ap (λ xs. a.pieces ++ xs) some)
                      ∙ ap (λ xs. xs ++ b.raw)
                      (flat_map-append (λ (q : Side × List ℕ). sent_by q.0 q.1) a.pieces (p
                      ∷ ps))
                      ∙ append_assoc (bytes_of a.pieces) (sent_by p.0 p.1 ++ bytes_of ps) b.raw
                      ∙ ap (λ xs. bytes_of a.pieces ++ xs)
                      (append_assoc (sent_by p.0 p.1) (bytes_of ps) b.raw
                      ∙ ap (λ xs. xs ++ tail) mine)
                      ∙ sym (append_assoc (bytes_of a.pieces)
                      (sent_by side (raw ++ byte ∷ begins.0)) tail)
                      ∙ ap (λ xs. xs ++ tail)
                      (sym (sent_on (bytes_of a.pieces) a.raw side raw (byte ∷ begins.0) a_raw))
                      ∙ append_assoc (bytes_of a.pieces ++ a.raw) (sent_by side (byte ∷ begins.0))
                      tail,
                ))
          ]

    nothing_behind : IsTrace between later → (refused : Refused) → ByteShows a byte refused → ⊥
    nothing_behind trace _ (of_piece cause {place = i} shows) = no_piece cause i later trace shows
    nothing_behind trace _ (of_frame side raw fault {place = i} in_raw shows) =
        let behind = raw_behind side raw in_raw later refl trace in
        faulty_later limits (bytes_of a.pieces ++ a.raw) a.messages a.rests a.recorded side byte
        behind.0 b.messages b.rests fault i
        (subst (λ xs. AreRecorded limits xs b.messages b.rests) behind.1 b.recorded)
        (b.are_open side) shows

  by_later : (later : List (Side × List ℕ)) (between : List ℕ) → a.pieces ≡ b.pieces ++ later
      → IsTrace between later → b.rest ≡ between ++ (a.rest ++ byte ∷ more)
      → (refused : Refused) → ByteShows a byte refused → ⊥
  by_later [] between pieces none rest refused shows =
      nothing_behind [] [] (cc (append-nil a.pieces, append-nil b.pieces))
      (sym (rest ∙ ap (λ t. t ++ (a.rest ++ byte ∷ more)) none)) refl refused shows
  by_later (p ∷ ps) between pieces trace rest refused shows =
      begun_not_open piece_grammar between (a.rest ++ byte ∷ more) p ps trace
      (subst IsOpenPiece rest (open_of b.of_rest))

  pub not_behind : (refused : Refused) → ByteShows a byte refused → ⊥
  not_behind =
      elim (two_lists piece_grammar a.front b.front (a.rest ++ byte ∷ more) b.rest a.pieces b.pieces
      a.trace b.trace parts) [
        | inl on ↦ nothing_behind on.later on.between on.values_are on.rest_is on.items
        | inr on ↦ by_later on.later on.between on.values_are on.items on.rest_is
      ]

-- ---- one rejection

-- The empty prefix of a trace.
abbrev pub nothing_came : (limits : Limits) → AreSound limits → SoFar limits.frame []
nothing_came limits sound = record {
  front = [];
  pieces = [];
  trace = refl;
  rest = [];
  split = refl;
  raw = [];
  of_rest = before_marker refl;
  messages = [];
  rests = λ side. [];
  recorded = nothing_recorded limits.frame;
  are_open = λ side. open_at_first limits.frame (let low = sound.frame.header_low in omega arith);
}

module _ (limits : Limits) (bytes : List ℕ) where
  front_behind : (f g x y : List ℕ) (byte other : ℕ) → bytes ≡ f ++ byte ∷ x
      → bytes ≡ g ++ other ∷ y → length f < length g → (z : List ℕ) × (g ≡ f ++ byte ∷ z)
  front_behind f g x y byte other e d less =
      (drop (length f + 1) g, begins_so g (other ∷ y) f x byte (sym d ∙ e) (omega (arith, less)))

  same_byte : (f g x y : List ℕ) (byte other : ℕ) → bytes ≡ f ++ byte ∷ x → bytes ≡ g ++ other ∷ y
      → length f ≡ length g → (f ≡ g) × (byte ≡ other)
  same_byte f g x y byte other e d len =
      let fronts = same_front f g (byte ∷ x) (other ∷ y) (sym e ∙ d) len in (
        fronts,
        (heads byte other x y
            (append_cancel_left f (byte ∷ x) (other ∷ y) (sym e ∙ d
            ∙ ap (λ t. t ++ other ∷ y) (sym fronts)))).0,
      )

  pub one_refusal : (refused because : Refused) (messages others : List (Side × List ℕ))
      → IsTraceRefused limits bytes refused messages → IsTraceRefused limits bytes because others
      → (refused ≡ because) × (messages ≡ others)
  one_refusal refused because _ _ (at_byte f byte x e early a shows)
      (at_byte g other y d late b shown) =
      elim (cases_lt (length f) (length g)) [
        | inl less ↦
            (let on = front_behind f g x y byte other e d less in absurd
            (not_behind limits.frame f on.0 g byte on.1 a b refused shows))
        | inr most ↦ elim (cases_lt (length g) (length f)) [
          | inl less ↦
              (let on = front_behind g f y x other byte d e less in absurd
              (not_behind limits.frame g on.0 f other on.1 b a because shown))
          | inr least ↦ (let one = same_byte f g x y byte other e d
              (omega (arith, most, least)) in (
                one_byte limits.frame f g one.0 a b byte refused because shows
                    (subst (λ z. ByteShows b z because) (sym one.1) shown),
                same_messages limits.frame f g one.0 a b,
              ))
        ]
      ]
  one_refusal refused _ _ _ (at_byte f byte x e early a shows) (past_limit g other y d full b) =
      let on = front_behind f g x y byte other e d (omega (arith, early, full)) in absurd
      (not_behind limits.frame f on.0 g byte on.1 a b refused shows)
  one_refusal refused because _ _ (at_byte f byte x e early a shows) (at_end short b ends) =
      absurd (not_behind limits.frame f x bytes byte e a b refused shows)
  one_refusal _ because _ _ (past_limit f byte x e full a) (at_byte g other y d late b shown) =
      let on = front_behind g f y x other byte d e (omega (arith, late, full)) in absurd
      (not_behind limits.frame g on.0 f other on.1 b a because shown)
  one_refusal _ _ _ _ (past_limit f byte x e full a) (past_limit g other y d long b) =
      let one = same_byte f g x y byte other e d (omega (arith, full, long)) in (
        ap TraceTooLong (same_number limits.frame f g one.0 a b),
        same_messages limits.frame f g one.0 a b,
      )
  one_refusal _ because _ _ (past_limit f byte x e full a) (at_end short b ends) =
      absurd (omega (arith, short, full, ap length e, length-append f (byte ∷ x)))
  one_refusal refused because _ _ (at_end short a ends) (at_byte g other y d late b shown) =
      absurd (not_behind limits.frame g y bytes other d b a because shown)
  one_refusal refused _ _ _ (at_end short a ends) (past_limit g other y d long b) =
      absurd (omega (arith, short, long, ap length d, length-append g (other ∷ y)))
  one_refusal refused because _ _ (at_end short a ends) (at_end small b end) = (
    one_end limits.frame bytes bytes refl a b refused because ends end,
    same_messages limits.frame bytes bytes refl a b,
  )

  module _ (sound : AreSound limits) where
    -- A recorded trace, as bytes received without an error.
    abbrev as_come : (messages : List (Side × List ℕ)) → IsRecordedAs limits bytes messages
        → SoFar limits.frame bytes
    as_come messages is = record {
      front = bytes;
      pieces = is.pieces;
      trace = is.trace;
      rest = [];
      split = sym (append-nil bytes);
      raw = [];
      of_rest = before_marker refl;
      messages = messages;
      rests = λ side. [];
      recorded = subst (λ xs. AreRecorded limits.frame xs messages (λ side. []))
          (sym (append-nil (bytes_of is.pieces))) is.recorded;
      are_open = λ side. open_at_first limits.frame
          (let low = sound.frame.header_low in omega arith);
    }

    pub one_list : (messages others : List (Side × List ℕ)) → IsRecordedAs limits bytes messages
        → IsRecordedAs limits bytes others → messages ≡ others
    one_list messages others a b =
        same_messages limits.frame bytes bytes refl (as_come messages a) (as_come others b)

    not_ended : (messages : List (Side × List ℕ)) (is : IsRecordedAs limits bytes messages)
        (b : SoFar limits.frame bytes) (refused : Refused) → EndsInside b refused → ⊥
    not_ended messages is b _ (a_piece some) =
        some (sym (split limits.frame bytes bytes refl (as_come messages is) b).1)
    not_ended messages is b _ (a_client_frame none some) =
        some (sym (same_rests limits.frame bytes bytes refl (as_come messages is) b Client))
    not_ended messages is b _ (an_adapter_frame none client some) =
        some (sym (same_rests limits.frame bytes bytes refl (as_come messages is) b Adapter))

    pub not_both : (messages others : List (Side × List ℕ)) (refused : Refused)
        → IsRecordedAs limits bytes messages → IsTraceRefused limits bytes refused others → ⊥
    not_both messages _ refused is (at_byte f byte x e early a shows) =
        not_behind limits.frame f x bytes byte e a (as_come messages is) refused shows
    not_both messages _ _ is (past_limit f byte x e full a) =
        (let short = is.short in omega
        (arith, short, full, ap length e, length-append f (byte ∷ x)))
    not_both messages _ refused is (at_end short a ends) = not_ended messages is a refused ends

    -- ---- some outcome

    abbrev Outcome : Type 0
    Outcome = ((messages : List (Side × List ℕ)) × IsRecordedAs limits bytes messages)
        ⊎ ((refused : Refused) × (messages : List (Side × List ℕ))
        × IsTraceRefused limits bytes refused messages)

    ended : length bytes ≤ limits.input → SoFar limits.frame bytes → Outcome
    ended short so_far =
        elim (at_the_end limits bytes so_far short) [
          | inl is ↦ inl (so_far.messages, is)
          | inr inside ↦ inr (inside.0, so_far.messages, at_end short so_far inside.2)
        ]

    go : (front more : List ℕ) → bytes ≡ front ++ more → length front ≤ limits.input
        → SoFar limits.frame front → Outcome
    go front [] e short so_far = let all : front ≡ bytes =
        sym (e ∙ append-nil front) in ended (subst (λ t. length t ≤ limits.input) all short)
        (subst (SoFar limits.frame) all so_far)
    go front (byte ∷ more) e short so_far =
        elim (cases_lt (length front) limits.input) [
          | inr full ↦ inr (
            TraceTooLong (next_piece so_far),
            so_far.messages,
            past_limit front byte more e (omega (arith, full, short)) so_far,
          )
          | inl early ↦ elim (byte_later limits.frame sound.frame front byte so_far) [
            | inl on ↦ go (front ++ byte ∷ []) more (e ∙ sym (append_assoc front (byte ∷ []) more))
                (omega (arith, early, length-append front (byte ∷ []))) on
            | inr faulty ↦ inr
                (faulty.0, so_far.messages, at_byte front byte more e early so_far faulty.1)
          ]
        ]

    pub some : Outcome
    some = go [] bytes refl (omega arith) (nothing_came limits sound)

pub traces_have_one_outcome : TracesHaveOneOutcome
traces_have_one_outcome limits sound = record {
  some = λ bytes. some limits bytes sound;
  one_list = λ bytes messages others. one_list limits bytes sound messages others;
  one_refusal =
      λ bytes refused because messages others. one_refusal limits bytes refused because messages
      others;
  not_both = λ bytes messages others refused. not_both limits bytes sound messages others refused;
}

of_end : {limits : FrameLimits} {bytes : List ℕ} (so_far : SoFar limits bytes) {refused : Refused}
    → EndsInside so_far refused → IsOfEnd refused
of_end so_far (a_piece begun) = tt
of_end so_far (a_client_frame none begun) = tt
of_end so_far (an_adapter_frame none client begun) = tt

pub refusal_stays : TraceRefusalStays
refusal_stays limits bytes more refused _ no_end (at_byte front byte x e early so_far shows) =
    at_byte front byte (x ++ more) (ap (λ t. t ++ more) e ∙ append_assoc front (byte ∷ x) more)
    early so_far shows
refusal_stays limits bytes more _ _ no_end (past_limit front byte x e full so_far) =
    past_limit front byte (x ++ more) (ap (λ t. t ++ more) e ∙ append_assoc front (byte ∷ x) more)
    full so_far
refusal_stays limits bytes more refused _ no_end (at_end short so_far ends) =
    absurd (no_end (of_end so_far ends))
