-- The stored state of a count in the reader of traces, and the effect of a byte and of several
-- bytes.
use Rattle.std.specs.Prelude.{◌≡◌, ◌≢◌, ℕ, ◌^◌, ◌<◌, ◌≤◌, ◌⊎◌, true, false, List, [], ◌∷◌, ◌++◌}
use Rattle.std.specs.Prelude.{length, take, slice_index}
use Rattle.std.specs.List.{list_all}
use Rattle.std.specs.Char.{is_ascii_digit}
use Rattle.dap_frame.specs.Lines.{number_of}
use Rattle.dap_recording.specs.declared.count.Count.{Count}
use Rattle.dap_recording.specs.declared.count.CountStep.{CountStep}
use Rattle.dap_recording.specs.declared.count.CountStep.TheVariants as step
use Rattle.dap_recording.specs.declared.count.CountEnd.{CountEnd}
use Rattle.dap_recording.specs.declared.count.CountEnd.TheVariants as end
use Rattle.dap_recording.specs.Trace.{IsCount, IsBadAt}

-- The state represents these digits, which are a count or the empty list.
pub record IsCountOf (count : Count) (text : List ℕ) : Type 0 where
  pub digits : count.digits ≡ length text
  pub number : count.number ≡ number_of text
  pub small : count.number < 10 ^ length text
  pub few : length text ≤ 10
  pub each : list_all is_ascii_digit text ≡ true
  pub zero : count.is_zero ≡ true → text ≡ 48 ∷ []
  pub other : count.is_zero ≡ false → (text ≡ []) ⊎ (slice_index text 0 ≢ 48)

-- the effect of one byte after these digits
abbrev pub Steps : List ℕ → ℕ → CountStep → Type 0
Steps text byte (step.More next) = IsCountOf next (text ++ byte ∷ [])
Steps text byte step.Ended = (byte ≡ 10) × IsCount text
Steps text byte step.Bad = IsBadAt text byte

-- the effect of bytes after these digits
abbrev pub Ends : List ℕ → List ℕ → CountEnd → Type 0
Ends text rest (end.More next) = IsCountOf next (text ++ rest)
Ends text rest (end.Ended used number) =
    (count : List ℕ) × (text ++ take used rest ≡ count ++ 10 ∷ []) × IsCount count
    × (number ≡ number_of count)
Ends text rest end.Bad = (k : ℕ) × (k < length rest)
    × IsBadAt (text ++ take k rest) (slice_index rest k)

-- the LF of a complete count is one of the bytes
abbrev pub IsEndWithin : List ℕ → CountEnd → Type 0
IsEndWithin rest (end.More next) = Unit {0}
IsEndWithin rest (end.Ended used number) = (0 < used) × (used ≤ length rest)
IsEndWithin rest end.Bad = Unit {0}
