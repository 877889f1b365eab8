-- The result of a framer at the start of a stream for one complete frame.
use Rattle.std.proofs.Common.{◌≡◌, ◌<◌, ⊎_elim, ℕ, List, [], length, take, drop}
use Rattle.std.proofs.Common.{Some, None}
use Rattle.std.proofs.Common.{MatchOption, refl, sym, ◌∙◌, subst, append-nil, take-append-drop}
use Rattle.std.proofs.lemmas.Bool.{cases_lt}
use Rattle.dap_frame.specs.declared.limits.FrameLimits.{FrameLimits}
use Rattle.dap_frame.specs.declared.fault.FrameFault.{FrameFault}
use Rattle.dap_frame.specs.declared.fault.FrameFault.TheVariants.{Memory}
use Rattle.dap_frame.specs.declared.fed.Fed.{Fed}
use Rattle.dap_frame.specs.Frame.{IsFrame, IsOpen, FailsAt, frame_text}
use Rattle.dap_frame.specs.Laws.{FrameNotFaulty, FrameNotOpen, OneFrame, WrittenIsFrame}
use Rattle.dap_frame.specs.Limits.{IsSound}
use Rattle.dap_frame.specs.Reading.{GivesFault, GivesFed, Reading, Represents, limits_of}

-- The bytes written for a content within the limit are a frame with that content.
pub whole_frame : WrittenIsFrame → (limits own : FrameLimits) → IsSound limits → own ≡ limits
    → (content written : List ℕ) → (limits.content < length content → ⊥)
    → written ≡ frame_text content → IsFrame own written content
whole_frame law limits own sound same content written short is =
    subst (λ l. IsFrame l written content) (sym same)
    (subst (λ bytes. IsFrame limits bytes content) (sym is)
    (law limits content sound
    (⊎_elim (λ long. absurd (short long)) (λ le. le) (cases_lt limits.content (length content)))))

module _ (limits : FrameLimits) (frame content : List ℕ) (is_frame : IsFrame limits frame content)
    (new : Reading) where
  -- The frame ends within these bytes, so a content is returned.
  pub some_content : FrameNotOpen → limits_of new ≡ limits → (fed : Fed)
      → GivesFed limits [] frame fed new → fed.content ≡ None → ⊥
  some_content not_open same fed gives none =
      let all : (fed.used ≡ length frame) × Represents new frame = subst
      (λ given. MatchOption given ((fed.used ≡ length frame) × Represents new frame)
      (λ read. IsFrame limits (take fed.used frame) read × Represents new [])) none gives.1 in
      not_open limits frame [] content is_frame
      (subst (IsOpen limits) (sym (append-nil frame))
      (subst (λ l. IsOpen l frame) same all.1.is_open))

  -- The content returned is the content of the frame.
  pub same_content : OneFrame → (fed : Fed) → GivesFed limits [] frame fed new
      → (read : List ℕ) → fed.content ≡ Some read → read ≡ content
  same_content one fed gives read some =
      let front : IsFrame limits (take fed.used frame) read × Represents new [] = subst
      (λ given. MatchOption given ((fed.used ≡ length frame) × Represents new frame)
      (λ read. IsFrame limits (take fed.used frame) read × Represents new [])) some gives.1 in
      (one limits (take fed.used frame) frame (drop fed.used frame) [] read content
      (take-append-drop fed.used frame ∙ sym (append-nil frame)) front.0 is_frame).1

  -- The only possible error is a failed allocation.
  pub only_memory : FrameNotFaulty → (fault : FrameFault) → GivesFault limits [] frame fault new
      → fault ≡ Memory
  only_memory not_faulty Memory gives = refl
  only_memory not_faulty fault gives =
      absurd (faulty fault (gives.shown (λ e. absurd (let same = e in cc))))
    where
      faulty : (why : FrameFault) → (i : ℕ) × FailsAt limits frame why i → ⊥
      faulty why shown = not_faulty limits frame [] content why shown.0 is_frame
          (subst (λ bytes. FailsAt limits bytes why shown.0) (sym (append-nil frame)) shown.1)
