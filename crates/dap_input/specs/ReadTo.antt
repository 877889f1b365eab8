-- How far an input has been read that is validated record by record while it is read. Source: own.
use Rattle.std.specs.Prelude.{◌≡◌, ◌⊎◌, ℕ, ◌+◌, ◌≤◌, Bool, true, false, List, [], ◌++◌, length}
use Rattle.std.specs.Prelude.{Option, Some, None}
use Rattle.dap_device.specs.declared.reading.Stop.{Stop}
use Rattle.dap_device.specs.declared.reading.Stop.TheVariants.{End, Failed}
use Rattle.dap_frame.specs.Grammar.{IsItem, FailsAt}
use Rattle.dap_recording.specs.declared.record_fault.RecordCause.{RecordCause}
use Rattle.dap_input.specs.{Inputs.{AcceptedBefore, EndsAt, Input}, Validation.Validation}

-- No more was read than this record required: without at most the last 65,536 bytes, the received
-- bytes end before it or inside it, and contain no error.
pub record IsReadTo (j : Validation) (bytes : List ℕ) (number : ℕ) : Type 0 where
  pub before : List ℕ
  pub last : List ℕ
  pub split : bytes ≡ before ++ last
  pub few : length last ≤ 65536
  pub ends : (before ≡ []) ⊎ ((earlier : ℕ) × (earlier ≤ number) × EndsAt j before earlier)

-- the reader has failed
abbrev pub has_failed : Option Stop → Bool
has_failed (Some Failed) = true
has_failed stop = false

-- The input of which these bytes have been received.
abbrev pub so_far : List ℕ → Option Stop → Input
so_far bytes stop = record { bytes = bytes; failed = has_failed stop }

-- An input of which these bytes have been received: all of it if the reader has ended or failed;
-- otherwise a prefix, whatever follows.
abbrev pub IsOf : List ℕ → Option Stop → Input → Type 0
IsOf bytes (Some End) input = (input.bytes ≡ bytes) × (input.failed ≡ false)
IsOf bytes (Some Failed) input = (input.bytes ≡ bytes) × (input.failed ≡ true)
IsOf bytes stop input = (more : List ℕ) × (input.bytes ≡ bytes ++ more)

-- At most 65,536 bytes were read beyond this record if it is complete, and beyond the byte that
-- proves an error of it. The records before it are accepted.
pub record IsBounded (j : Validation) (bytes : List ℕ) (number : ℕ) : Type 0 where
  pub past_record : (before : AcceptedBefore j (so_far bytes None) number) (whole more : List ℕ)
      (held : j.Payload) → before.rest ≡ whole ++ more → IsItem j.records whole held
      → length bytes ≤ length before.front + length whole + 65536
  pub past_fault : (before : AcceptedBefore j (so_far bytes None) number) (cause : RecordCause)
      (place : ℕ) → FailsAt j.records before.rest cause place
      → length bytes ≤ length before.front + place + 65536
