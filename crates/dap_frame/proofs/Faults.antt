-- An error is proved by one of the bytes, and it is neither `Cut` nor `Memory`.
use Rattle.std.proofs.Common.{◌≡◌, ◌≢◌, ℕ, ◌<◌, ◌≤◌, List, length, Result, Err, refl, sym, ◌∙◌}
use Rattle.dap_frame.proofs.Ends as items
use Rattle.dap_frame.specs.declared.limits.FrameLimits.{FrameLimits}
use Rattle.dap_frame.specs.declared.fault.FrameFault.{FrameFault}
use Rattle.dap_frame.specs.declared.fault.FrameFault.TheVariants.{Cut, Memory}
use Rattle.dap_frame.specs.Limits.{IsSound}
use Rattle.dap_frame.specs.Frame.{EndsHeader, in_header, too_long, frames, FailsAt}
use Rattle.dap_frame.proofs.Frames.{header_fault, readable}
use Rattle.dap_frame.proofs.HeaderFindings.{judged-fault}

of_header : (limits : FrameLimits) (bytes : List ℕ) (said : Result ℕ FrameFault)
    (fault : FrameFault) → EndsHeader limits bytes said → said ≡ Err fault
    → (fault ≢ Cut) × (fault ≢ Memory)
of_header limits bytes said fault (in_header h) e =
    judged-fault limits h.says.lines fault (sym h.says.said_so ∙ e)
of_header limits bytes said fault (too_long long lacks) e = (λ same. cc, λ same. cc)

pub of_format : (limits : FrameLimits) (bytes : List ℕ) (fault : FrameFault)
    → (frames limits).Ends bytes (Err fault) → (fault ≢ Cut) × (fault ≢ Memory)
of_format limits bytes fault ends =
    of_header limits bytes (Err fault) fault (header_fault limits bytes fault ends) refl

pub shown_within : (limits : FrameLimits) (bytes : List ℕ) (fault : FrameFault) (i : ℕ)
    → FailsAt limits bytes fault i
    → (IsSound limits → 0 < i) × (i ≤ length bytes)
shown_within limits bytes fault i shows = (
  λ sound. (items.shown_inside (readable limits sound) bytes fault i shows).0,
  items.shown_within bytes fault i shows,
)

pub shown_of_format : (limits : FrameLimits) (bytes : List ℕ) (fault : FrameFault) (i : ℕ)
    → FailsAt limits bytes fault i
    → (fault ≢ Cut) × (fault ≢ Memory)
shown_of_format limits bytes fault i shows = of_format limits shows.front fault shows.ends
