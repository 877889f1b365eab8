-- The view of a framer's fields that callers have, and the invariant of the fields.
use Rattle.std.specs.Prelude.{◌≡◌, ℕ, List, [], Option, Some, None}
use Rattle.dap_frame.specs.declared.limits.FrameLimits.{FrameLimits}
use Rattle.dap_frame.specs.declared.fault.FrameFault.{FrameFault}
use Rattle.dap_frame.specs.declared.framer.State.{State}
use Rattle.dap_frame.specs.declared.framer.State.TheVariants.{Open, Failed}
use Rattle.dap_frame.specs.declared.framer.Framer.TheInside.{Inside}
use Rattle.dap_frame.specs.declared.progress.Progress.{Progress}
use Rattle.dap_frame.specs.Limits.{IsSound}
use Rattle.dap_frame.specs.Reading.{Reading, IsKeptOf}

-- the error that occurred
abbrev pub fault_in : State → Option FrameFault
fault_in (Open progress) = None
fault_in (Failed fault) = Some fault

-- the progress of the current frame
abbrev pub progress_in : State → Option Progress
progress_in (Open progress) = Some progress
progress_in (Failed fault) = None

-- the view of callers: all fields except the allocator
abbrev pub reading : Inside → Reading
reading a =
    record {
      limits = a.limits;
      fault = fault_in a.state;
      progress = progress_in a.state;
      bytes = a.bytes.items;
    }

-- The fields represent some rest of a stream. After an error, no bytes are stored.
abbrev pub IsKeptIn : FrameLimits → List ℕ → State → Type 0
IsKeptIn limits bytes (Open progress) = (rest : List ℕ) × IsKeptOf limits progress bytes rest
IsKeptIn limits bytes (Failed fault) = bytes ≡ []

-- The fields are consistent.
pub record IsConsistent (a : Inside) : Type 0 where
  pub sound : IsSound a.limits
  pub kept : IsKeptIn a.limits a.bytes.items a.state
