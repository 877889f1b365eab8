-- Pieces of a trace and the rest after them.
use Rattle.std.proofs.Common.{◌≡◌, ◌⊎◌, inl, inr, ℕ, ◌-◌, ◌≤◌, List, [], ◌∷◌, ◌++◌, length}
use Rattle.std.proofs.Common.{take, drop, refl, sym, ◌∙◌, ap, ap₂, subst, arith}
use Rattle.std.proofs.lemmas.Bool.{cases_lt}
use Rattle.std.proofs.lemmas.List.{append_assoc, length-append, length-take-le, take-append-drop}
use Rattle.dap_frame.specs.Combinators.{first_open, second_open}
use Rattle.dap_frame.proofs.Ends.{open_has_no_item, open_not_faulty, item_not_faulty}
use Rattle.dap_frame.proofs.ItemStreams.{one_stream}
use Rattle.dap_frame.specs.Lines.{number_of}
use Rattle.dap_recording.specs.declared.trace_fault.TraceCause.{TraceCause}
use Rattle.dap_recording.specs.declared.trace_fault.TraceCause.TheVariants.{BadMarker}
use Rattle.dap_recording.specs.Marker.{marker}
use Rattle.dap_recording.specs.Trace.{IsCount, IsOpenPiece, IsPiece, IsTrace, ShowsTraceFault}
use Rattle.dap_recording.proofs.Counts.{counted_one, no_lf}
use Rattle.dap_recording.proofs.Fronts.{heads, not_empty}
use Rattle.dap_recording.proofs.Markers.{is_marker, marker_one}
use Rattle.dap_recording.proofs.TracePieces.{open_in_count, open_in_raw, piece_grammar, piece_of}
use Rattle.dap_tree.specs.declared.side.Side.{Side}
use Rattle.dap_record.specs.Tracing.{IsInRaw, IsOpenWith, before_marker, in_count, in_raw, sent_by}

-- Bytes split in only one way into complete pieces and an incomplete rest.
pub one_split : (f g x y : List ℕ) (ps qs : List (Side × List ℕ)) → IsTrace f ps → IsTrace g qs
    → f ++ x ≡ g ++ y → IsOpenPiece x → IsOpenPiece y → (ps ≡ qs) × (x ≡ y)
one_split f g x y ps qs trace others e open_x open_y =
    one_stream piece_grammar (f ++ x) ps qs x y
    (record {
      front = f;
      items = trace;
      whole = refl;
      no_item = open_has_no_item piece_grammar x open_x;
    })
    (record {
      front = g;
      items = others;
      whole = e;
      no_item = open_has_no_item piece_grammar y open_y;
    })

-- ---- rests

pub raw_open : {rest : List ℕ} {side : Side} {raw : List ℕ} → IsInRaw rest side raw
    → IsOpenPiece rest
raw_open {rest} {side} {raw} is =
    open_in_raw rest is.text raw side is.rest_is is.is_count is.to_come

pub open_of : {rest : List ℕ} {raw : List (Side × ℕ)} → IsOpenWith rest raw → IsOpenPiece rest
open_of (before_marker none) = first_open none
open_of {rest} (in_count side text is begun) = open_in_count rest text side is begun
open_of (in_raw side raw is) = raw_open is

pub opened : (rest : List ℕ) → IsOpenPiece rest → (raw : List (Side × ℕ)) × IsOpenWith rest raw
opened rest (first_open none) = ([], before_marker none)
opened rest (second_open first text side e m (first_open begun)) =
    ([], in_count side text (e ∙ ap (λ t. t ++ text) (is_marker BadMarker first side m)) begun)
opened rest
    (second_open first behind side e m
    (second_open line raw n f (text, byte, g, begun, (lf, is, says)) short)) = (
      sent_by side raw,
      in_raw side raw (record {
        text = text;
        rest_is = e ∙ ap (λ t. t ++ behind) (is_marker BadMarker first side m)
            ∙ ap (λ t. marker side ∷ t) (f ∙ ap (λ t. t ++ raw) (g ∙ ap (λ b. text ++ b ∷ []) lf)
            ∙ append_assoc text (10 ∷ []) raw);
        is_count = is;
        to_come = omega (arith, short, says);
      }),
    )

-- A rest with raw bytes remains incomplete with more bytes, or becomes a piece.
abbrev pub RawGoesOn : List ℕ → Side → List ℕ → List ℕ → Type 0
RawGoesOn rest side raw more =
    IsInRaw (rest ++ more) side (raw ++ more)
    ⊎ ((front : List ℕ) × (back : List ℕ) × (more ≡ front ++ back)
    × IsPiece (rest ++ front) side (raw ++ front))

pub raw_goes_on : (rest : List ℕ) (side : Side) (raw more : List ℕ) → IsInRaw rest side raw
    → RawGoesOn rest side raw more
raw_goes_on rest side raw more is =
    let line : List ℕ = marker side ∷ is.text in
    let grown : (xs : List ℕ)
    → rest ++ xs ≡ line ++ 10 ∷ (raw ++ xs) =
    λ xs. ap (λ t. t ++ xs) is.rest_is ∙ append_assoc line (10 ∷ raw) xs in
    elim (cases_lt (length (raw ++ more)) (number_of is.text)) [
      | inl short ↦ inl
          (record { text = is.text; rest_is = grown more; is_count = is.is_count; to_come = short })
      | inr enough ↦ (let n : ℕ = number_of is.text - length raw in
          let inside : n ≤ length more = omega (arith, enough, length-append raw more) in
          let few = is.to_come in
          inr (
            take n more,
            drop n more,
            sym (take-append-drop n more),
            piece_of (rest ++ take n more) side (raw ++ take n more) (record {
              count = is.text;
              is_count = is.is_count;
              says = omega
                  (arith, few, length-append raw (take n more), length-take-le n more inside);
              bytes_are = grown (take n more);
            }),
          ))
    ]

pub raw_shows_nothing : (rest : List ℕ) (side : Side) (raw more : List ℕ) (cause : TraceCause)
    (place : ℕ) → IsInRaw rest side raw → ShowsTraceFault (rest ++ more) cause place → ⊥
raw_shows_nothing rest side raw more cause place is shows =
    elim (raw_goes_on rest side raw more is) [
      | inl on ↦ open_not_faulty piece_grammar (rest ++ more) cause place (raw_open on) shows
      | inr ended ↦ item_not_faulty piece_grammar (rest ++ ended.0) ended.1 (side, raw ++ ended.0)
          cause place ended.3
          (subst (λ t. ShowsTraceFault t cause place) (ap (λ t. rest ++ t) ended.2
          ∙ sym (append_assoc rest ended.0 ended.1)) shows)
    ]

-- There are no raw bytes before the count has ended.
pub count_not_raw : (rest : List ℕ) (side s : Side) (text raw : List ℕ) → rest ≡ marker side ∷ text
    → (text ≡ []) ⊎ IsCount text → IsInRaw rest s raw → ⊥
count_not_raw rest side s text raw e (inl none) is =
    let same = heads (marker side) (marker s) text (is.text ++ 10 ∷ raw) (sym e ∙ is.rest_is) in
    omega (arith, ap length (sym none ∙ same.1), length-append is.text (10 ∷ raw))
count_not_raw rest side s text raw e (inr count) is =
    let same = heads (marker side) (marker s) text (is.text ++ 10 ∷ raw) (sym e ∙ is.rest_is) in
    no_lf is.text raw (subst IsCount same.1 count)

pub one_in_raw : (rest : List ℕ) (s t : Side) (a b : List ℕ) → IsInRaw rest s a → IsInRaw rest t b
    → (s ≡ t) × (a ≡ b)
one_in_raw rest s t a b p q =
    let same = heads (marker s) (marker t) (p.text ++ 10 ∷ a) (q.text ++ 10 ∷ b) (sym p.rest_is
    ∙ q.rest_is) in
    (marker_one s t same.0, (counted_one p.text q.text a b p.is_count q.is_count same.1).1)

pub one_raw : {rest : List ℕ} {xs ys : List (Side × ℕ)} → IsOpenWith rest xs → IsOpenWith rest ys
    → xs ≡ ys
one_raw (before_marker none) (before_marker e) = refl
one_raw (before_marker none) (in_count side text e begun) = refl
one_raw {rest} (before_marker none) (in_raw side raw is) =
    absurd (not_empty rest (is.text ++ 10 ∷ raw) (marker side) none is.rest_is)
one_raw (in_count side text is begun) (before_marker e) = refl
one_raw (in_count side text is begun) (in_count s t e b) = refl
one_raw {rest} (in_count side text e begun) (in_raw s raw is) =
    absurd (count_not_raw rest side s text raw e begun is)
one_raw {rest} (in_raw side raw is) (before_marker none) =
    absurd (not_empty rest (is.text ++ 10 ∷ raw) (marker side) none is.rest_is)
one_raw {rest} (in_raw s raw is) (in_count side text e begun) =
    absurd (count_not_raw rest side s text raw e begun is)
one_raw {rest} (in_raw side raw is) (in_raw s other has) = let one =
    one_in_raw rest side s raw other is has in ap₂ sent_by one.0 one.1

-- ---- bytes that contain an error

-- An incomplete rest that more bytes extend to an error has no raw bytes.
pub no_raw : (rest more : List ℕ) (xs : List (Side × ℕ)) (cause : TraceCause) (place : ℕ)
    → IsOpenWith rest xs → ShowsTraceFault (rest ++ more) cause place → xs ≡ []
no_raw rest more _ cause place (before_marker none) shows = refl
no_raw rest more _ cause place (in_count side text is begun) shows = refl
no_raw rest more _ cause place (in_raw side raw is) shows =
    absurd (raw_shows_nothing rest side raw more cause place is shows)
