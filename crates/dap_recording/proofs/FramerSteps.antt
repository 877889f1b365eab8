-- The result of a call of a framer, depending on whether a frame ended or an error was returned.
use Rattle.std.proofs.Common.{◌≡◌, ◌≢◌, ℕ, ◌⊎◌, inl, inr, List, [], ◌++◌, length, take, Option}
use Rattle.std.proofs.Common.{Some, None, MatchOption, refl, subst}
use Rattle.dap_frame.specs.declared.limits.FrameLimits.{FrameLimits}
use Rattle.dap_frame.specs.declared.fault.FrameFault.{FrameFault}
use Rattle.dap_frame.specs.declared.fault.FrameFault.TheVariants.{Memory}
use Rattle.dap_frame.specs.declared.fed.Fed.{Fed}
use Rattle.dap_frame.specs.Frame.{IsFrame}
use Rattle.dap_frame.specs.Reading.{Reading, Represents, GivesFed}

pub is_memory : (fault : FrameFault) → (fault ≡ Memory) ⊎ (fault ≢ Memory)
is_memory Memory = inl refl
is_memory other = inr (λ e. cc)

module _ (limits : FrameLimits) (rest piece : List ℕ) (fed : Fed) (new : Reading)
    (gives : GivesFed limits rest piece fed new) where
  pub fed_frame : (content : List ℕ) → fed.content ≡ Some content
      → IsFrame limits (rest ++ take fed.used piece) content × Represents new []
  fed_frame content e =
      subst (λ (o : Option (List ℕ)). MatchOption o ((fed.used ≡ length piece)
      × Represents new (rest ++ piece)) (λ c. IsFrame limits (rest ++ take fed.used piece) c
      × Represents new [])) e gives.1

  pub fed_all : fed.content ≡ None → (fed.used ≡ length piece) × Represents new (rest ++ piece)
  fed_all e =
      subst (λ (o : Option (List ℕ)). MatchOption o ((fed.used ≡ length piece)
      × Represents new (rest ++ piece)) (λ c. IsFrame limits (rest ++ take fed.used piece) c
      × Represents new [])) e gives.1
