-- The bytes that a reader of traces represents after it has read more.
use Rattle.std.proofs.Common.{◌≡◌, ◌≢◌, ℕ, suc, ◌+◌, ◌-◌, ◌*◌, ◌^◌, ◌<◌, ◌≤◌, ◌⊎◌, inl, inr, ⊎_elim}
use Rattle.std.proofs.Common.{Bool, true, false, ◌&&◌, List, [], ◌∷◌, ◌++◌, length, take, drop}
use Rattle.std.proofs.Common.{get_or, refl, sym, ap, ◌∙◌, subst, arith, add-one}
use Rattle.std.proofs.lemmas.List.{append_assoc, take_more, take-append-drop, length-append}
use Rattle.std.proofs.lemmas.List.{length-take-le, length-drop, nil_from_length}
use Rattle.std.proofs.lemmas.List.Folds.{list_all-append}
use Rattle.std.proofs.lemmas.List.Sums.{fold-append}
use Rattle.std.proofs.Math.Nat.{pow-suc}
use Rattle.std.proofs.Math.Seq.{drop-cons}
use Rattle.std.specs.Char.{is_ascii_digit}
use Rattle.dap_frame.specs.Combinators.{in_first, in_second, first_open}
use Rattle.dap_frame.specs.Lines.{number_of}
use Rattle.dap_tree.specs.declared.side.Side.{Side}
use Rattle.dap_recording.specs.declared.count.Count.{Count}
use Rattle.dap_recording.specs.declared.trace_fault.TraceCause.TheVariants.{BadMarker, BadCount}
use Rattle.dap_recording.specs.declared.trace_state.TraceState.{TraceState}
use Rattle.dap_recording.specs.declared.trace_state.TraceState.TheVariants as states
use Rattle.dap_recording.specs.TraceReading.{TraceReading}
use Rattle.dap_recording.specs.TraceReading.{RepresentsPiece, IsKeptOfPiece}
use Rattle.dap_recording.specs.Marker.{marker, IsNoMarker}
use Rattle.dap_recording.specs.Trace.{IsCount, IsBadAt, IsPiece, ShowsTraceFault, IsOpenPiece}
use Rattle.dap_recording.specs.Count.{IsCountOf}
use Rattle.dap_recording.proofs.Fronts.{first_is, split_at, taken_more}
use Rattle.dap_recording.proofs.Markers.{a_marker}
use Rattle.dap_recording.proofs.TracePieces.{piece_of, open_in_count, open_in_raw}

first_other : (text : List ℕ) (byte : ℕ) → (text ≡ []) ⊎ (get_or text 0 0 ≢ 48)
    → (text ≡ [] → byte ≢ 48) → get_or (text ++ byte ∷ []) 0 0 ≢ 48
first_other [] byte h b = b refl
first_other (x ∷ xs) byte (inl e) b = absurd (let e' = ap length e in omega arith)
first_other (x ∷ xs) byte (inr h) b = h

module _ (count next : Count) (text : List ℕ) (byte : ℕ) (was : IsCountOf count text) where
  pub more_digit : is_ascii_digit byte ≡ true → count.is_zero ≡ false → count.digits < 10
      → next.digits ≡ count.digits + 1
      → next.number ≡ count.number * 10 + (byte - 48)
      → (next.is_zero ≡ true → (count.digits ≡ 0) × (byte ≡ 48))
      → (next.is_zero ≡ false → count.digits ≡ 0 → byte ≢ 48)
      → IsCountOf next (text ++ byte ∷ [])
  more_digit digit plain few digits number lone apart =
      let len : length (text ++ byte ∷ []) ≡ length text + 1 = length-append text (byte ∷ []) in
      let none : text ≡ [] → count.digits ≡ 0 = λ e. was.digits ∙ ap length e in
      let power : 10 ^ (length text + 1) ≡ 10 ^ length text * 10 =
      rw add-one (pow-suc 10 (length text)) in
      let small = was.small in
      let high : byte ≤ 57 = grind (arith, digit) in
      let shown : next.number < 10 ^ (length text + 1) =
      omega (arith, power, small, number, high) in
      record {
        digits = omega (arith, digits, was.digits, len);
        number = number ∙ ap (λ n. n * 10 + (byte - 48)) was.number
            ∙ sym (fold-append (λ n digit. n * 10 + (digit - 48)) 0 text (byte ∷ []));
        small = subst (λ k. next.number < 10 ^ k) (sym len) shown;
        few = omega (arith, len, was.digits, few);
        each = list_all-append is_ascii_digit text (byte ∷ [])
            ∙ ap (λ v. v && (is_ascii_digit byte && true)) was.each ∙ ap (λ v. v && true) digit;
        zero = λ e. let got =
            lone e in ap (λ xs. xs ++ byte ∷ []) (nil_from_length text (sym was.digits ∙ got.0))
            ∙ ap (λ b. b ∷ []) got.1;
        other = λ e. inr (first_other text byte (was.other plain) (λ n. apart e (none n)));
      }

-- at the start
pub no_digits : (count : Count) → count.digits ≡ 0 → count.number ≡ 0 → count.is_zero ≡ false
    → IsCountOf count []
no_digits count digits number plain = record {
  digits = digits;
  number = number;
  small = omega (arith, number);
  few = omega arith;
  each = refl;
  zero = λ e. cc;
  other = λ e. inl refl;
}

-- the count continues over one more byte of the rest
pub on : (next : Count) (text rest : List ℕ) (at : ℕ) → at < length rest
    → IsCountOf next ((text ++ take at rest) ++ get_or rest at 0 ∷ [])
    → IsCountOf next (text ++ take (at + 1) rest)
on next text rest at inside is =
    subst (IsCountOf next) (append_assoc text (take at rest) (get_or rest at 0 ∷ [])
    ∙ ap (λ xs. text ++ xs) (sym (take_more rest at 0 inside))) is

pub ended_at : (text rest : List ℕ) (at : ℕ) → at < length rest → get_or rest at 0 ≡ 10
    → text ++ take (at + 1) rest ≡ (text ++ take at rest) ++ 10 ∷ []
ended_at text rest at inside lf =
    ap (λ xs. text ++ xs) (take_more rest at 0 inside)
    ∙ sym (append_assoc text (take at rest) (get_or rest at 0 ∷ []))
    ∙ ap (λ b. (text ++ take at rest) ++ b ∷ []) lf

module _ (bytes input raw text : List ℕ) (side : Side) (from left : ℕ) (within : from
    ≤ length input) (is_count : IsCount text)
    (front : bytes ++ take from input ≡ marker side ∷ (text ++ 10 ∷ raw)) (says : number_of text
    ≡ length raw + left) where
  pub run_on : bytes ++ input ≡ (marker side ∷ text) ++ 10 ∷ (raw ++ drop from input)
  run_on = split_at bytes input (marker side ∷ (text ++ 10 ∷ raw)) from front
      ∙ append_assoc (marker side ∷ text) (10 ∷ raw) (drop from input)

  pub run_left : length (drop from input) < left
      → number_of text ≡ length (raw ++ drop from input) + (left - length (drop from input))
  run_left short = omega (arith, says, length-append raw (drop from input))

  run_len : left ≤ length input - from → length (take left (drop from input)) ≡ left
  run_len long = length-take-le left (drop from input) (omega (arith, length-drop from input))

  pub run_ends : left ≤ length input - from
      → IsPiece (bytes ++ take (from + left) input) side (raw ++ take left (drop from input))
  run_ends long =
      piece_of (bytes ++ take (from + left) input) side (raw ++ take left (drop from input))
      (record {
        count = text;
        is_count = is_count;
        says = omega (arith, says, length-append raw (take left (drop from input)), run_len long);
        bytes_are =
            taken_more bytes input (marker side ∷ (text ++ 10 ∷ raw)) from left front
            ∙ append_assoc (marker side ∷ text) (10 ∷ raw) (take left (drop from input));
      })

  pub run_none : left ≤ length input - from → take left (drop from input) ≡ [] → left ≡ 0
  run_none long e = sym (run_len long) ∙ ap length e

pub run_some : (input : List ℕ) (from : ℕ) → from < length input → drop from input ≡ [] → ⊥
run_some input from inside e = omega (arith, length-drop from input, ap length e)

pub bad_count : (bytes input text : List ℕ) (side : Side) (from k : ℕ)
    → bytes ++ take from input ≡ marker side ∷ text → k < length (drop from input)
    → IsBadAt (text ++ take k (drop from input)) (get_or (drop from input) k 0)
    → (i : ℕ) × ShowsTraceFault (bytes ++ input) BadCount i
bad_count bytes input text side from k front_is inside bad =
    let rest : List ℕ = drop from input in
    let front : List ℕ = (marker side ∷ (text ++ take k rest)) ++ get_or rest k 0 ∷ [] in (
      length front,
      record {
        front = front;
        more = drop (suc k) rest;
        bytes_are = split_at bytes input (marker side ∷ text) from front_is
            ∙ ap (λ xs. (marker side ∷ text) ++ xs) (sym (take-append-drop k rest)
            ∙ ap (λ xs. take k rest ++ xs) (drop-cons rest k 0 inside))
            ∙ sym (append_assoc (marker side ∷ text) (take k rest) (get_or rest k 0
            ∷ drop (suc k) rest))
            ∙ sym (append_assoc (marker side ∷ (text ++ take k rest)) (get_or rest k 0 ∷ [])
            (drop (suc k) rest));
        ends = in_second (marker side ∷ []) ((text ++ take k rest) ++ get_or rest k 0 ∷ []) side
            refl (a_marker BadMarker side)
            (in_first BadCount (text ++ take k rest, get_or rest k 0, refl, bad.begun, (bad, refl))
            refl);
        place = refl;
      },
    )

pub bad_piece_marker : (bytes input : List ℕ) → bytes ≡ [] → 0 < length input
    → IsNoMarker (get_or input 0 0) → ShowsTraceFault (bytes ++ input) BadMarker 1
bad_piece_marker bytes input none some other = record {
  front = get_or input 0 0 ∷ [];
  more = drop 1 input;
  bytes_are = ap (λ xs. xs ++ input) none ∙ first_is input some;
  ends = in_first BadMarker ([], get_or input 0 0, refl, refl, (other, refl)) refl;
  place = refl;
}

pub at_trace_state : (reader : TraceReading) (piece : ℕ) (bytes raw : List ℕ) (state : TraceState)
    → reader.state ≡ state → RepresentsPiece reader piece bytes raw → IsKeptOfPiece state bytes raw
at_trace_state reader piece bytes raw state e represents =
    subst (λ s. IsKeptOfPiece s bytes raw) e represents.kept

pub begun : (count : Count) (text : List ℕ) → IsCountOf count text → (text ≡ []) ⊎ IsCount text
begun count [] is = inl refl
begun count (x ∷ xs) is = inr (record {
  some = omega arith;
  few = is.few;
  digits = is.each;
  plain = plain count.is_zero refl;
})
  where
    plain : (b : Bool) → count.is_zero ≡ b → (length (x ∷ xs) ≡ 1) ⊎ (get_or (x ∷ xs) 0 0 ≢ 48)
    plain true e = inl (ap length (is.zero e))
    plain false e =
        ⊎_elim (λ (none : x ∷ xs ≡ []). absurd (let len = ap length none in omega arith))
        (λ apart. inr apart) (is.other e)

piece_kept_open : (state : TraceState) (bytes raw : List ℕ) → IsKeptOfPiece state bytes raw
    → IsOpenPiece bytes
piece_kept_open states.Marker bytes raw h = first_open h.0
piece_kept_open (states.Count side count) bytes raw h =
    open_in_count bytes h.0 side h.1 (begun count h.0 h.2)
piece_kept_open (states.Raw side left) bytes raw h =
    open_in_raw bytes h.0 raw side h.1 h.2 (let short : length raw
    < number_of h.0 = omega (arith, h.3, h.4) in short)
piece_kept_open (states.Failed cause) bytes raw h = absurd h

pub stands_open_piece : (reader : TraceReading) (piece : ℕ) (bytes raw : List ℕ)
    → RepresentsPiece reader piece bytes raw → IsOpenPiece bytes
stands_open_piece reader piece bytes raw represents = piece_kept_open reader.state bytes raw
    represents.kept
