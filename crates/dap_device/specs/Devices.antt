-- Readers and writers in the clauses of a call: the counts that a call allows, and a device with its
-- states before and after a call. Source: own.
use Rattle.std.specs.Prelude.{ℕ, ◌<◌, ◌^◌}
use Rattle.dap_device.specs.declared.device.Sink.{Ghosts as Sink}
use Rattle.dap_device.specs.declared.device.Source.{Ghosts as Source}

-- The counts of the reader cannot overflow during a call.
abbrev pub CanRead : {R : Type 0} → Source R → R → Type 0
CanRead source reader = (source.given reader < 2 ^ 62) × (source.failures reader < 2 ^ 62)

-- The count of the writer cannot overflow during a call.
abbrev pub CanWrite : {W : Type 0} → Sink W → W → Type 0
CanWrite sink writer = sink.failures writer < 2 ^ 62

-- A reader, and its states before and after a call.
pub record Read (R : Type 0) : Type 1 where
  pub source : Source R
  pub old : R
  pub new : R

abbrev pub reads : {R : Type 0} → Source R → R → R → Read R
reads source old new = record { source = source; old = old; new = new }

-- A writer, and its states before and after a call.
pub record Written (W : Type 0) : Type 1 where
  pub sink : Sink W
  pub old : W
  pub new : W

abbrev pub writes : {W : Type 0} → Sink W → W → W → Written W
writes sink old new = record { sink = sink; old = old; new = new }
