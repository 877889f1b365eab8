-- The view of a recorder's fields that callers have, and the invariant of the fields.
use Rattle.std.specs.Prelude.{◌≡◌, List, ℕ, None}
use Rattle.dap_frame.specs.Limits.{IsSound}
use Rattle.dap_frame.specs.Reading.{Represents, limits_of}
use Rattle.dap_recording.specs.declared.recorder.Recorder.TheInside.{Inside}
use Rattle.dap_recording.specs.RecorderReading.{RecorderReading}

-- the view of callers: all fields
abbrev pub reading : Inside → RecorderReading
reading a =
    record {
      limits = a.limits;
      client = a.client;
      adapter = a.adapter;
      text = a.text.items;
      fault = a.fault;
    }

-- The fields are consistent: both framers have the recorder's limits, and represent some rests if
-- no error occurred.
pub record IsConsistent (recorder : RecorderReading) : Type 0 where
  pub sound : IsSound recorder.limits
  pub client_limits : limits_of recorder.client ≡ recorder.limits
  pub adapter_limits : limits_of recorder.adapter ≡ recorder.limits
  pub going : recorder.fault ≡ None
      → ((rest : List ℕ) × Represents recorder.client rest)
      × ((rest : List ℕ) × Represents recorder.adapter rest)
