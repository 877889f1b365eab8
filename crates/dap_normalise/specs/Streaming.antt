-- The results of `normalise` and `check`, and how much they have then read and written: those of
-- every command function that works record by record. The output is the normal form. Source: own.
use Rattle.std.specs.Prelude.{ℕ, List, Option, Result}
use Rattle.dap_device.specs.declared.device.Source.{Ghosts as Source}
use Rattle.dap_device.specs.declared.device.Sink.{Ghosts as Sink}
use Rattle.dap_device.specs.declared.reading.Stop.{Stop}
use Rattle.dap_input.specs.Streaming as engine
use Rattle.dap_input.specs.{declared.limits.Limits.Limits, declared.refused.Refused.Refused}
use Rattle.dap_rename.specs.declared.mode.Mode.{Mode}
use Rattle.dap_normalise.specs.{Accepting.accepting, Normalising.{IsCanonical, Normalises}}

module _ {R : Type 0} (source : Source R) (limits : Limits) (mode : Mode) where
  abbrev pub HasComeTo : R → R → Option Stop → ℕ → List ℕ → Type 0
  HasComeTo = engine.HasComeTo (accepting limits mode) (Normalises limits mode) source

  -- This record is rejected, or the reader fails at it. The records before it have this output.
  abbrev pub RefusesNext : R → R → Refused → List ℕ → Type 0
  RefusesNext = engine.RefusesNext (accepting limits mode) (Normalises limits mode) source

module _ {R W : Type 0} (source : Source R) (sink : Sink W) (limits : Limits) (mode : Mode) where
  abbrev pub RanOutOfMemory : R → R → W → W → Type 0
  RanOutOfMemory =
      engine.RanOutOfMemory (accepting limits mode) (Normalises limits mode)
      (IsCanonical limits mode)
      source sink

  -- an allocation failed before it read the record with this number
  abbrev pub HasGivenUpAt : ℕ → R → R → W → W → Type 0
  HasGivenUpAt =
      engine.HasGivenUpAt (accepting limits mode) (Normalises limits mode) (IsCanonical limits mode)
      source sink

  abbrev pub HasFailedToWrite : R → R → W → W → Type 0
  HasFailedToWrite =
      engine.HasFailedToWrite (accepting limits mode) (Normalises limits mode) (IsCanonical limits
      mode) source
      sink

  -- The normal form of the records is written while they are checked.
  abbrev pub Streams : {U : Type 0} → R → R → W → W → Result U Refused → Type 0
  Streams = engine.Streams (accepting limits mode) (Normalises limits mode) (IsCanonical limits
      mode) source sink

abbrev pub Flushes : {W U : Type 0} → Sink W → W → W → Result U Refused → Result U Refused → Type 0
Flushes = engine.Flushes

-- The remaining output is written before the result is returned; or the writer fails, and
-- `WriteFault` is returned.
abbrev pub Ends : {W : Type 0} → Sink W → List ℕ → W → W → Result (Unit {0}) Refused
    → Result (Unit {0}) Refused → Type 0
Ends = engine.Ends
