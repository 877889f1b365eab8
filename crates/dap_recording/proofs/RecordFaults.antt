-- A frame never has the errors `Cut` or `Memory`.
use Rattle.std.proofs.Common.{◌≡◌, ◌≢◌, ℕ, inl, inr, List, subst}
use Rattle.dap_frame.specs.declared.limits.FrameLimits.{FrameLimits}
use Rattle.dap_frame.specs.declared.fault.FrameFault.{FrameFault}
use Rattle.dap_frame.specs.declared.fault.FrameFault.TheVariants.{Cut, Memory}
use Rattle.dap_frame.proofs.Faults as frames
use Rattle.dap_recording.specs.declared.record_fault.RecordCause.TheVariants.{Frame}
use Rattle.dap_recording.specs.Recording.{ShowsFault}
use Rattle.dap_recording.proofs.Records.{fault_of}

pub shown_of_format : (limits : FrameLimits) (x : List ℕ) (fault : FrameFault) (i : ℕ)
    → ShowsFault limits x (Frame fault) i → (fault ≢ Cut) × (fault ≢ Memory)
shown_of_format limits x fault i shows =
    elim (fault_of limits shows.front (Frame fault) shows.ends) [
      | inl wrong ↦ absurd (let no : ⊥ = cc in no)
      | inr other ↦ elim other [
        | inl wrong ↦ absurd (let no : ⊥ = cc in no)
        | inr is ↦ (let same : is.1
            ≡ fault = cc in subst (λ f. (f ≢ Cut)
            × (f ≢ Memory)) same (frames.of_format limits is.0 is.1 is.3))
      ]
    ]
