-- The part of a chunk that a frame consumes. `rest` is the part of the frame before the chunk.
use Rattle.std.specs.Prelude.{◌≡◌, ◌≢◌, ℕ, ◌+◌, ◌-◌, ◌<◌, ◌≤◌, List, [], ◌++◌, length, take, drop}
use Rattle.std.specs.Prelude.{Result, Ok, Err}
use Rattle.dap_frame.specs.declared.limits.FrameLimits.{FrameLimits}
use Rattle.dap_frame.specs.declared.fault.FrameFault.{FrameFault}
use Rattle.dap_frame.specs.declared.fault.FrameFault.TheVariants.{Memory}
use Rattle.dap_frame.specs.declared.header_scan.HeaderScan.{HeaderScan}
use Rattle.dap_frame.specs.declared.progress.HeaderTaken.{HeaderTaken}
use Rattle.dap_frame.specs.declared.progress.HeaderTaken.TheVariants.{Unfinished, Ended}
use Rattle.dap_frame.specs.Frame.{BeginsWith, FailsAt}
use Rattle.dap_frame.specs.HeaderScan.{IsScanOf}

-- The scan represents some bytes, fewer than the limit of a header part.
abbrev pub IsShortScan : FrameLimits → HeaderScan → Type 0
IsShortScan limits scan = (rest : List ℕ) × IsScanOf limits rest scan
    × (length rest < limits.header)

-- The whole chunk was consumed, and the header part continues.
pub record GoesOn (limits : FrameLimits) (rest piece : List ℕ) (scan : HeaderScan) : Type 0 where
  pub scanned : IsScanOf limits (rest ++ piece) scan
  pub short : length (rest ++ piece) < limits.header

-- `used` bytes of the chunk were consumed. The header part ended there, and states the length of
-- the content.
pub record HasEnded (limits : FrameLimits) (rest piece : List ℕ)
    (header_len content_len used : ℕ) : Type 0 where
  pub within : used ≤ length piece
  pub some : 0 < used
  pub header_len_is : header_len ≡ length (rest ++ take used piece)
  pub header : BeginsWith limits (rest ++ take used piece) header_len (Ok content_len)
  pub small : content_len ≤ limits.content

-- The header part has this error, which is not an allocation failure.
pub record ShowsInHeader (limits : FrameLimits) (rest piece : List ℕ) (fault : FrameFault) : Type 0
  where
    pub no_memory : fault ≢ Memory
    pub place : ℕ
    pub shown : FailsAt limits (rest ++ piece) fault place

-- the effect of a chunk on a header part that had not ended
abbrev pub TakesHeader : FrameLimits → List ℕ → List ℕ → Result HeaderTaken FrameFault → Type 0
TakesHeader limits rest piece (Ok (Unfinished scan)) = GoesOn limits rest piece scan
TakesHeader limits rest piece (Ok (Ended header_len content_len used)) =
    HasEnded limits rest piece header_len content_len used
TakesHeader limits rest piece (Err fault) = ShowsInHeader limits rest piece fault

-- `used` bytes of the chunk come before the bytes of the content, and `bytes` are those of the
-- content that came before the chunk.
pub record IsAtContent (limits : FrameLimits) (bytes rest piece : List ℕ)
    (header_len content_len used : ℕ) : Type 0 where
  pub within : used ≤ length piece
  pub progress : 0 < used + (content_len - length bytes)
  pub room : length bytes ≤ content_len
  pub header : BeginsWith limits (rest ++ take used piece) header_len (Ok content_len)
  pub behind : drop header_len (rest ++ take used piece) ≡ bytes
  pub small : content_len ≤ limits.content

-- the effect of a chunk on a header part that may have ended before it
abbrev pub TakesRestOfHeader : FrameLimits → List ℕ → List ℕ → List ℕ
    → Result HeaderTaken FrameFault → Type 0
TakesRestOfHeader limits bytes rest piece (Ok (Unfinished scan)) = (bytes ≡ [])
    × GoesOn limits rest piece scan
TakesRestOfHeader limits bytes rest piece (Ok (Ended header_len content_len used)) =
    IsAtContent limits bytes rest piece header_len content_len used
TakesRestOfHeader limits bytes rest piece (Err fault) = (bytes ≡ [])
    × ShowsInHeader limits rest piece fault
