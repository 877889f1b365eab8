-- The effect of reading a complete input on its source. Source: own.
use Rattle.std.specs.Prelude.{◌≡◌, ℕ, ◌+◌, ◌<◌, ◌≤◌, List, length}
use Rattle.std.specs.Io.KnownBytes.{Consumes, IsAtEnd}
use Rattle.dap_device.specs.declared.device.Source.{Ghosts as Source}
use Rattle.dap_device.specs.declared.reading.Stop.{Stop}
use Rattle.dap_device.specs.declared.reading.Stop.TheVariants.{End, Full, Failed}

-- the number of bytes read if reading stops for this reason: at most the limit, or exactly one more
abbrev pub HasLength : ℕ → List ℕ → Stop → Type 0
HasLength limit bytes End = length bytes ≤ limit
HasLength limit bytes Full = length bytes ≡ limit + 1
HasLength limit bytes Failed = length bytes ≤ limit

-- the number of bytes read, compared with the limit, if reading stops for this reason
abbrev pub FitsStop : ℕ → List ℕ → Stop → Type 0
FitsStop limit bytes End = length bytes ≤ limit
FitsStop limit bytes Full = limit < length bytes
FitsStop limit bytes Failed = length bytes ≤ limit

module _ {S : Type 0} (source : Source S) (old new : S) where
  -- why reading stopped: no bytes remain, a byte beyond the limit was read, or the source failed
  abbrev pub HasStopped : Stop → Type 0
  HasStopped End = IsAtEnd (source.left new) × (source.failures new ≡ source.failures old)
  HasStopped Full = source.failures new ≡ source.failures old
  HasStopped Failed = source.failures new ≡ source.failures old + 1

  -- These bytes were read from the source, they are counted, and reading stopped for this reason.
  pub record HasReadInput (limit : ℕ) (bytes : List ℕ) (stop : Stop) : Type 0 where
    pub came : Consumes (source.left old) (source.left new) bytes
    pub counted : source.given new ≡ source.given old + length bytes
    pub has_length : HasLength limit bytes stop
    pub stopped : HasStopped stop

  -- At most this many bytes were read from the source, they are counted, and it did not fail.
  pub record HasReadPartly (limit : ℕ) : Type 0 where
    pub bytes : List ℕ
    pub came : Consumes (source.left old) (source.left new) bytes
    pub counted : source.given new ≡ source.given old + length bytes
    pub within : length bytes ≤ limit
    pub no_failure : source.failures new ≡ source.failures old
