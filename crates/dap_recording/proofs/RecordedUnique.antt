-- The bytes of a trace are recorded in only one way: in each prefix the same frames have ended.
use Rattle.std.proofs.Common.{◌≡◌, ℕ, ◌⊎◌, inl, inr, false, List, [], ◌∷◌, ◌++◌, length, map, refl}
use Rattle.std.proofs.Common.{sym, ap, ◌∙◌, subst, arith}
use Rattle.std.proofs.lemmas.List.{append_assoc, append-nil, append_cancel_left, length-append}
use Rattle.dap_frame.proofs.ItemStreams.{one_stream, stream_more}
use Rattle.dap_frame.specs.declared.limits.FrameLimits.{FrameLimits}
use Rattle.dap_frame.specs.Frame.{Stream}
use Rattle.dap_frame.proofs.Frames.{frame_grammar, no_empty_frame}
use Rattle.dap_tree.specs.declared.side.Side.{Side}
use Rattle.dap_tree.specs.declared.side.Side.TheVariants.{Client, Adapter}
use Rattle.dap_recording.specs.RecordedTraces.{is_side, of_side, HaveEnded, AreRecorded}
use Rattle.dap_recording.proofs.RecorderRuns.{of_side-append, bytes_of_other, nothing_ended}

empty_list : (cs : List (List ℕ)) → length cs ≡ 0 → cs ≡ []
empty_list [] e = refl
empty_list (c ∷ cs) e = absurd (omega arith)

-- if neither side sent anything, the list is empty
none_of_both : (xs : List (Side × List ℕ)) → ((side : Side) → of_side side xs ≡ []) → xs ≡ []
none_of_both [] none = refl
none_of_both ((Client, c) ∷ xs) none = absurd (let e = none Client in let f : ⊥ = cc in f)
none_of_both ((Adapter, c) ∷ xs) none = absurd (let e = none Adapter in let f : ⊥ = cc in f)

-- a list in which only one side sent is determined by what that side sent
all_of_side : (s : Side) (xs : List (Side × List ℕ))
    → ((side : Side) → is_side side s ≡ false → of_side side xs ≡ [])
    → xs ≡ map (λ c. (s, c)) (of_side s xs)
all_of_side Client [] none = refl
all_of_side Client ((Client, c) ∷ xs) none =
    ap (λ ys. (Client, c) ∷ ys) (all_of_side Client xs (λ side e. sole side e))
  where
    sole : (side : Side) → is_side side Client ≡ false → of_side side xs ≡ []
    sole Client e = absurd (let f : ⊥ = cc in f)
    sole Adapter e = none Adapter refl
all_of_side Client ((Adapter, c) ∷ xs) none =
    absurd (let e = none Adapter refl in let f : ⊥ = cc in f)
all_of_side Adapter [] none = refl
all_of_side Adapter ((Adapter, c) ∷ xs) none =
    ap (λ ys. (Adapter, c) ∷ ys) (all_of_side Adapter xs (λ side e. sole side e))
  where
    sole : (side : Side) → is_side side Adapter ≡ false → of_side side xs ≡ []
    sole Client e = none Client refl
    sole Adapter e = absurd (let f : ⊥ = cc in f)
all_of_side Adapter ((Client, c) ∷ xs) none =
    absurd (let e = none Client refl in let f : ⊥ = cc in f)

-- for two prefixes of one list, one continues the other
two_fronts : (xs ys front back : List (Side × List ℕ)) → xs ++ ys ≡ front ++ back
    → ((more : List (Side × List ℕ)) × (xs ≡ front ++ more))
    ⊎ ((more : List (Side × List ℕ)) × (front ≡ xs ++ more))
two_fronts xs ys [] back e = inl (xs, refl)
two_fronts [] ys (f ∷ front) back e = inr (f ∷ front, refl)
two_fronts (x ∷ xs) ys (f ∷ front) back e =
    let same : x ≡ f = cc in
    let behind : xs ++ ys ≡ front ++ back = cc in
    elim (two_fronts xs ys front back behind) [
      | inl more ↦ inl (more.0, ap (λ y. y ∷ xs) same ∙ ap (λ zs. f ∷ zs) more.1)
      | inr more ↦ inr (more.0, ap (λ y. y ∷ front) (sym same) ∙ ap (λ zs. x ∷ zs) more.1)
    ]

-- if no more messages of either side have ended, no messages remain
no_more : (before more : List (Side × List ℕ))
    → ((side : Side)
    → (es : List (List ℕ)) × (of_side side before ≡ of_side side (before ++ more) ++ es))
    → more ≡ []
no_more before more same = none_of_both more (λ side.
    let e = (same side).1 in
    empty_list (of_side side more)
    (omega (
      arith,
      ap length e,
      length-append (of_side side (before ++ more)) (same side).0,
      ap length (of_side-append side before more),
      length-append (of_side side before) (of_side side more),
    )))

module _ (limits : FrameLimits) (bytes : List (Side × ℕ)) (ms ns : List (Side × List ℕ)) (r q : Side
    → List ℕ)
    (p : AreRecorded limits bytes ms r) (p' : AreRecorded limits bytes ns q) where
  -- in this prefix the same messages have ended
  record Agree (front : List (Side × ℕ)) : Type 0 where
    before : List (Side × List ℕ)
    after : List (Side × List ℕ)
    after' : List (Side × List ℕ)
    rests : Side → List ℕ
    is : ms ≡ before ++ after
    is' : ns ≡ before ++ after'
    ended : HaveEnded limits front before rests

  -- with one more byte, at least the same messages have ended
  grows : (front more : List (Side × ℕ)) (whole before after before1 after1 : List (Side × List ℕ))
      (rests rests1 : Side → List ℕ)
      → whole ≡ before ++ after → whole ≡ before1 ++ after1
      → HaveEnded limits front before rests → HaveEnded limits (front ++ more) before1 rests1
      → (x : List (Side × List ℕ)) × (before1 ≡ before ++ x)
  grows front more whole before after before1 after1 rests rests1 e e1 ended ended1 =
      elim (two_fronts before1 after1 before after (sym e1 ∙ e)) [
        | inl longer ↦ longer
        | inr shorter ↦ (let none : shorter.0 ≡ [] = no_more before1 shorter.0 (λ side.
            let streams =
            stream_more (frame_grammar limits) (no_empty_frame limits) (of_side side front)
            (of_side side more) (of_side side before) (of_side side before1) (rests side)
            (rests1 side) (ended side)
            (subst (λ xs. Stream limits xs (of_side side before1) (rests1 side))
            (of_side-append side front more) (ended1 side)) in
            (streams.0, streams.1 ∙ ap (λ xs. of_side side xs ++ streams.0) shorter.1)) in (
              [],
              sym (append-nil before1) ∙ ap (λ xs. before1 ++ xs) (sym none) ∙ sym shorter.1
                  ∙ sym (append-nil before),
            ))
      ]

  step : (front back : List (Side × ℕ)) (s : Side) (b : ℕ) → bytes ≡ (front ++ (s, b) ∷ []) ++ back
      → Agree front → Agree (front ++ (s, b) ∷ [])
  step front back s b e was =
      let one = p.so_far (front ++ (s, b) ∷ []) back e in
      let two = p'.so_far (front ++ (s, b) ∷ []) back e in
      let x = grows front ((s, b) ∷ []) ms was.before was.after one.0 one.1 was.rests one.2 was.is
      one.3 was.ended one.4 in
      let y = grows front ((s, b) ∷ []) ns was.before was.after' two.0 two.1 was.rests two.2 was.is'
      two.3 was.ended two.4 in
      let ended_x = subst (λ m. HaveEnded limits (front ++ (s, b) ∷ []) m one.2) x.1 one.4 in
      let ended_y = subst (λ m. HaveEnded limits (front ++ (s, b) ∷ []) m two.2) y.1 two.4 in
      let same : x.0 ≡ y.0 =
      all_of_side s x.0
      (λ side apart. nothing_of_other side s b front was.before x.0 was.rests one.2 apart
      was.ended ended_x)
      ∙ ap (map (λ c. (s, c)))
      (append_cancel_left (of_side s was.before) (of_side s x.0) (of_side s y.0)
      (sym (of_side-append s was.before x.0)
      ∙ (one_stream (frame_grammar limits) (of_side s (front ++ (s, b) ∷ []))
      (of_side s (was.before ++ x.0)) (of_side s (was.before ++ y.0)) (one.2 s) (two.2 s)
      (ended_x s) (ended_y s)).0 ∙ of_side-append s was.before y.0))
      ∙ sym (all_of_side s y.0
      (λ side apart. nothing_of_other side s b front was.before y.0 was.rests two.2 apart
      was.ended ended_y)) in
      record {
        before = was.before ++ x.0;
        after = one.1;
        after' = two.1;
        rests = one.2;
        is = one.3 ∙ ap (λ xs. xs ++ one.1) x.1;
        is' = two.3 ∙ ap (λ xs. xs ++ two.1) (y.1 ∙ ap (λ xs. was.before ++ xs) (sym same));
        ended = ended_x;
      }
    where
      nothing_of_other : (side s : Side) (b : ℕ) (front : List (Side × ℕ))
          (before x : List (Side × List ℕ)) (rests others : Side → List ℕ)
          → is_side side s ≡ false → HaveEnded limits front before rests
          → HaveEnded limits (front ++ (s, b) ∷ []) (before ++ x) others
          → of_side side x ≡ []
      nothing_of_other side s b front before x rests others apart ended ended1 =
          let as_before =
          subst (λ xs. Stream limits xs (of_side side (before ++ x)) (others side))
          (bytes_of_other side s front (b ∷ []) apart) (ended1 side) in
          let same = (one_stream (frame_grammar limits) (of_side side front)
          (of_side side (before ++ x)) (of_side side before) (others side) (rests side)
          as_before (ended side)).0 in
          append_cancel_left (of_side side before) (of_side side x) []
          (sym (of_side-append side before x) ∙ same ∙ sym (append-nil (of_side side before)))

  agree : (front back : List (Side × ℕ)) → bytes ≡ front ++ back → Agree front → Agree bytes
  agree front [] e was = subst Agree (sym (e ∙ append-nil front)) was
  agree front ((s, b) ∷ back) e was =
      let on : bytes ≡ (front ++ (s, b) ∷ []) ++ back =
      e ∙ sym (append_assoc front ((s, b) ∷ []) back) in
      agree (front ++ (s, b) ∷ []) back on (step front back s b on was)

  -- the messages that have ended in all the bytes are all messages
  all_ended : (whole before after : List (Side × List ℕ)) (rests all : Side → List ℕ)
      → whole ≡ before ++ after
      → HaveEnded limits bytes before rests → HaveEnded limits bytes whole all → whole ≡ before
  all_ended whole before after rests all e ended full =
      let none : after ≡ [] = no_more before after (λ side. (
        [],
        (one_stream (frame_grammar limits) (of_side side bytes) (of_side side before)
            (of_side side whole) (rests side) (all side) (ended side) (full side)).0
            ∙ ap (of_side side) e ∙ sym (append-nil (of_side side (before ++ after))),
      )) in
      e ∙ ap (λ xs. before ++ xs) none ∙ append-nil before

  pub one_recorded : ms ≡ ns
  one_recorded =
      let last = agree [] bytes refl
      (record {
        before = [];
        after = ms;
        after' = ns;
        rests = λ side. [];
        is = refl;
        is' = refl;
        ended = nothing_ended limits [] refl;
      }) in
      all_ended ms last.before last.after last.rests r last.is last.ended p.all
      ∙ sym (all_ended ns last.before last.after' last.rests q last.is' last.ended p'.all)
