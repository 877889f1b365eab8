-- Records are the items of a grammar: a marker, a frame, LF.
use Rattle.std.proofs.Common.{◌≡◌, ◌⊎◌, ℕ, inl, inr, List, [], ◌∷◌, ◌++◌, Result, Ok, Err, refl}
use Rattle.std.proofs.Common.{sym, ap, ◌∙◌}
use Rattle.std.proofs.lemmas.Bool.Decides.{eqb_tells}
use Rattle.dap_frame.specs.Grammar.{IsGrammar}
use Rattle.dap_frame.specs.Combinators.{in_first, in_second, first_open}
use Rattle.dap_frame.proofs.Ends.{IsReadable}
use Rattle.dap_frame.proofs.Then.{and_then_grammar, byte_grammar}
use Rattle.dap_frame.specs.declared.limits.FrameLimits.{FrameLimits}
use Rattle.dap_frame.specs.declared.fault.FrameFault.{FrameFault}
use Rattle.dap_frame.specs.Frame.{IsFrame, frames}
use Rattle.dap_frame.proofs.Frames.{frame_grammar}
use Rattle.dap_tree.specs.declared.side.Side.{Side}
use Rattle.dap_recording.specs.declared.record_fault.RecordCause.{RecordCause}
use Rattle.dap_recording.specs.declared.record_fault.RecordCause.TheVariants.{BadMarker, Frame}
use Rattle.dap_recording.specs.declared.record_fault.RecordCause.TheVariants.{NoLineEnd}
use Rattle.dap_recording.specs.Marker.{marker}
use Rattle.dap_recording.specs.Recording.{EndsLine, IsOpenRecord, records}
use Rattle.dap_recording.proofs.Markers.{marker_grammar, a_marker}

module _ (message : Side × List ℕ) where
  one_line_end : (byte : ℕ) (a b : Result (Side × List ℕ) RecordCause) → EndsLine message byte a
      → EndsLine message byte b → a ≡ b
  one_line_end byte (Ok v) (Ok w) p q = ap Ok (p.1 ∙ sym q.1)
  one_line_end byte (Ok v) (Err f) p q = absurd (q.0 p.0)
  one_line_end byte (Err e) (Ok w) p q = absurd (p.0 q.0)
  one_line_end byte (Err e) (Err f) p q = ap Err (p.1 ∙ sym q.1)

  some_line_end : (byte : ℕ) → (a : Result (Side × List ℕ) RecordCause) × EndsLine message byte a
  some_line_end byte =
      elim (eqb_tells byte 10)
      [ inl lf ↦ (Ok message, (lf.1, refl)) | inr other ↦ (Err NoLineEnd, (other.1, refl)) ]

module _ (limits : FrameLimits) where
  pub record_grammar : IsGrammar (records limits)
  record_grammar =
      and_then_grammar (λ cause. cause) (marker_grammar BadMarker)
      (λ side. and_then_grammar Frame (frame_grammar limits)
      (λ content. byte_grammar (EndsLine (side, content)) (one_line_end (side, content))
      (some_line_end (side, content))))

  pub open_none : IsOpenRecord limits []
  open_none = first_open refl

  pub readable : IsReadable (records limits)
  readable = record { grammar = record_grammar; open_none = open_none }

  -- a marker, a frame and a byte after it
  pub ends_line : (side : Side) (frame content : List ℕ) (byte : ℕ)
      (result : Result (Side × List ℕ) RecordCause)
      → IsFrame limits frame content → EndsLine (side, content) byte result
      → (records limits).Ends ((marker side ∷ frame) ++ byte ∷ []) result
  ends_line side frame content byte result is says =
      in_second (marker side ∷ []) (frame ++ byte ∷ []) side refl (a_marker BadMarker side)
      (in_second frame (byte ∷ []) content refl is ([], byte, refl, refl, says))

  -- an error of a record is one of its marker, of its frame, or of its end
  pub fault_of : (bytes : List ℕ) (cause : RecordCause) → (records limits).Ends bytes (Err cause)
      → (cause ≡ BadMarker)
      ⊎ ((cause ≡ NoLineEnd)
      ⊎ ((frame : List ℕ) × (fault : FrameFault) × (cause ≡ Frame fault)
      × (frames limits).Ends frame (Err fault)))
  fault_of bytes cause (in_first other (front, byte, e, none, says) u) =
      inl (let same : cause ≡ other = cc in same ∙ says.1)
  fault_of bytes cause (in_second front more side e m (in_first fault p u)) =
      inr (inr (more, fault, cc, p))
  fault_of bytes cause
      (in_second front more side e m
      (in_second frame last content f is (none, byte, g, empty, says))) = inr (inl says.1)
