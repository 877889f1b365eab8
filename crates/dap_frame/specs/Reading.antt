-- The bytes that a framer represents to its callers, and the result of a call.
use Rattle.std.specs.Prelude.{◌≡◌, ◌≢◌, ℕ, ◌<◌, ◌≤◌, List, [], ◌++◌, length, take, drop, Option}
use Rattle.std.specs.Prelude.{Some, None, Result, Ok, Err, MatchOption}
use Rattle.dap_frame.specs.declared.limits.FrameLimits.{FrameLimits}
use Rattle.dap_frame.specs.declared.fault.FrameFault.{FrameFault}
use Rattle.dap_frame.specs.declared.fault.FrameFault.TheVariants.{Memory}
use Rattle.dap_frame.specs.declared.fed.Fed.{Fed}
use Rattle.dap_frame.specs.declared.progress.Progress.{Progress}
use Rattle.dap_frame.specs.declared.progress.Progress.TheVariants.{Header, Content}
use Rattle.dap_frame.specs.Frame.{IsFrame, BeginsWith, IsOpen, FailsAt}
use Rattle.dap_frame.specs.HeaderScan.{IsScanOf}

-- The stored state: the limits, the error that occurred, the progress of the current frame, and the
-- bytes of its content. Callers need only `limits_of`, `HasFailed` and `Represents`.
pub record Reading : Type 0 where
  pub limits : FrameLimits
  pub fault : Option FrameFault
  pub progress : Option Progress
  pub bytes : List ℕ

-- the limits that the framer was made with
abbrev pub limits_of : Reading → FrameLimits
limits_of framer = framer.limits

-- This error occurred before.
abbrev pub HasFailed : Reading → FrameFault → Type 0
HasFailed framer fault = framer.fault ≡ Some fault

-- The stored state is that of the rest. Many rests have the same state, because no byte of a header
-- part is stored.
abbrev pub IsKeptOf : FrameLimits → Progress → List ℕ → List ℕ → Type 0
IsKeptOf limits (Header scan) bytes rest = (bytes ≡ []) × IsScanOf limits rest scan
    × (length rest < limits.header)
IsKeptOf limits (Content header_len content_len) bytes rest =
    BeginsWith limits rest header_len (Ok content_len) × (drop header_len rest ≡ bytes)
    × (length bytes < content_len)

-- The same for a framer that may have failed: after an error it represents no rest.
abbrev pub IsKeptBy : FrameLimits → Option Progress → List ℕ → List ℕ → Type 0
IsKeptBy limits None bytes rest = ⊥
IsKeptBy limits (Some progress) bytes rest = IsKeptOf limits progress bytes rest

-- The framer represents this rest of a stream, which is incomplete. This is the abstraction
-- relation.
pub record Represents (framer : Reading) (rest : List ℕ) : Type 0 where
  pub going : framer.fault ≡ None
  pub kept : IsKeptBy framer.limits framer.progress framer.bytes rest
  pub is_open : IsOpen framer.limits rest

-- The effect of a call on a framer that represented the rest. Either it consumed the whole chunk
-- and then represents both. Or it consumed the bytes up to the end of a frame and then represents
-- no bytes.
abbrev pub GivesFed : FrameLimits → List ℕ → List ℕ → Fed → Reading → Type 0
GivesFed limits rest piece fed new = (fed.used ≤ length piece) × MatchOption fed.content
    ((fed.used ≡ length piece) × Represents new (rest ++ piece))
    (λ content. IsFrame limits (rest ++ take fed.used piece) content × Represents new [])

-- The returned error is `Memory`, and the framer still represents the rest; or the rest and the
-- chunk prove it.
pub record GivesFault (limits : FrameLimits) (rest piece : List ℕ) (fault : FrameFault)
    (new : Reading) : Type 0 where
  pub memory : fault ≡ Memory → Represents new rest
  pub shown : fault ≢ Memory → (i : ℕ) × FailsAt limits (rest ++ piece) fault i
  pub failed : fault ≢ Memory → HasFailed new fault

-- The result of a call if the framer represented the rest, and the rest that it represents then.
abbrev pub Gives : FrameLimits → List ℕ → List ℕ → Result Fed FrameFault → Reading → Type 0
Gives limits rest piece (Ok fed) new = GivesFed limits rest piece fed new
Gives limits rest piece (Err fault) new = GivesFault limits rest piece fault new
