-- Pieces are the items of a grammar: a marker, a count line, and as many raw bytes as it states.
use Rattle.std.proofs.Common.{◌≡◌, ◌⊎◌, ℕ, ◌<◌, inl, inr, List, [], ◌∷◌, ◌++◌, length, Err, refl}
use Rattle.std.proofs.Common.{sym, ap, ◌∙◌}
use Rattle.std.proofs.lemmas.List.{append_assoc}
use Rattle.dap_frame.specs.Grammar.{IsGrammar}
use Rattle.dap_frame.specs.Combinators.{in_first, in_second, first_open, second_open}
use Rattle.dap_frame.proofs.Ends.{one_item, IsReadable}
use Rattle.dap_frame.proofs.Then.{and_then_grammar, so_many_grammar}
use Rattle.dap_frame.specs.Lines.{number_of}
use Rattle.dap_tree.specs.declared.side.Side.{Side}
use Rattle.dap_recording.specs.declared.trace_fault.TraceCause.{TraceCause}
use Rattle.dap_recording.specs.declared.trace_fault.TraceCause.TheVariants.{BadMarker, BadCount}
use Rattle.dap_recording.specs.Marker.{marker}
use Rattle.dap_recording.specs.Trace.{IsCount, IsCountFront, IsPiece, IsOpenPiece, pieces_of}
use Rattle.dap_recording.proofs.Counts.{count_grammar, a_count}
use Rattle.dap_recording.proofs.Markers.{marker_grammar, a_marker, is_marker}

pub piece_grammar : IsGrammar pieces_of
piece_grammar =
    and_then_grammar (λ cause. cause) (marker_grammar BadMarker)
    (λ side. and_then_grammar (λ cause. cause) count_grammar (so_many_grammar (λ raw. (side, raw))))

pub one_piece : (f g y z : List ℕ) (s t : Side) (a b : List ℕ) → f ++ y ≡ g ++ z → IsPiece f s a
    → IsPiece g t b → (f ≡ g) × (s ≡ t) × (a ≡ b)
one_piece f g y z s t a b e p q = let one =
    one_item piece_grammar f g y z (s, a) (t, b) e p q in
    (one.0, ap (λ p. p.0) one.1, ap (λ p. p.1) one.1)

pub readable : IsReadable pieces_of
readable = record { grammar = piece_grammar; open_none = first_open refl }

-- The parts of a piece.
pub record HasParts (bytes : List ℕ) (side : Side) (raw : List ℕ) : Type 0 where
  pub count : List ℕ
  pub is_count : IsCount count
  pub says : number_of count ≡ length raw
  pub bytes_are : bytes ≡ (marker side ∷ count) ++ 10 ∷ raw

pub piece_of : (bytes : List ℕ) (side : Side) (raw : List ℕ) → HasParts bytes side raw
    → IsPiece bytes side raw
piece_of bytes side raw has =
    in_second (marker side ∷ []) (has.count ++ 10 ∷ raw) side has.bytes_are
    (a_marker BadMarker side)
    (in_second (has.count ++ 10 ∷ []) raw (number_of has.count)
    (sym (append_assoc has.count (10 ∷ []) raw)) (a_count has.count has.is_count)
    (refl, sym has.says))

pub parts_of : (bytes : List ℕ) (side : Side) (raw : List ℕ) → IsPiece bytes side raw
    → HasParts bytes side raw
parts_of bytes side raw (in_first cause p u) = absurd cc
parts_of bytes side raw (in_second front more s e m (in_first cause p u)) = absurd cc
parts_of bytes side raw
    (in_second front more s e m
    (in_second line last n f (text, byte, g, begun, (lf, is, says)) (value, many))) =
    let same : ◌≡◌ {A = Side × List ℕ} (side, raw) (s, last) = cc in
    record {
      count = text;
      is_count = is;
      says = sym says ∙ sym many ∙ ap (λ p. length p.1) (sym same);
      bytes_are = e ∙ ap (λ xs. xs ++ more) (is_marker BadMarker front s m)
          ∙ ap (λ xs. marker s ∷ xs) (f ∙ ap (λ xs. xs ++ last) (g ∙ ap (λ b. text ++ b ∷ []) lf)
          ∙ append_assoc text (10 ∷ []) last)
          ∙ ap (λ p. (marker p.0 ∷ text) ++ 10 ∷ p.1) (sym same);
    }

-- incomplete bytes after a marker
pub open_in_count : (bytes text : List ℕ) (side : Side) → bytes ≡ marker side ∷ text
    → IsCountFront text → IsOpenPiece bytes
open_in_count bytes text side e begun =
    second_open (marker side ∷ []) text side e (a_marker BadMarker side) (first_open begun)

pub open_in_raw : (bytes text raw : List ℕ) (side : Side) → bytes ≡ (marker side ∷ text) ++ 10 ∷ raw
    → IsCount text → length raw < number_of text → IsOpenPiece bytes
open_in_raw bytes text raw side e is short =
    second_open (marker side ∷ []) (text ++ 10 ∷ raw) side e (a_marker BadMarker side)
    (second_open (text ++ 10 ∷ []) raw (number_of text) (sym (append_assoc text (10 ∷ []) raw))
    (a_count text is) short)

-- an error of a piece is one of its marker or of its count
pub fault_of : (bytes : List ℕ) (cause : TraceCause) → pieces_of.Ends bytes (Err cause)
    → (cause ≡ BadMarker) ⊎ (cause ≡ BadCount)
fault_of bytes cause (in_first other (front, byte, e, none, says) u) =
    inl (let same : cause ≡ other = cc in same ∙ says.1)
fault_of bytes cause
    (in_second front more side e m (in_first other (text, byte, f, begun, says) u)) =
    inr (let same : cause ≡ other = cc in same ∙ says.1)
fault_of bytes cause (in_second front more side e m (in_second line raw n f is q)) =
    absurd (let wrong = q.0 in cc)
