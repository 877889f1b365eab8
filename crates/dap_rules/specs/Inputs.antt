-- The result of `read_session_by_rules`. Source: own.
use Rattle.std.specs.Prelude.{ℕ, List, Result, Ok, Err}
use Rattle.dap_device.specs.declared.device.Source.{Ghosts as Source}
use Rattle.dap_device.specs.{declared.reading.Stop.Stop, Reading.HasReadInput}
use Rattle.dap_mask.specs.Mask.{Mask}
use Rattle.dap_rename.specs.declared.mode.Mode.{Mode}
use Rattle.dap_stored.specs.{Sessions.messages_of, declared.session.StoredSession.StoredSession}
use Rattle.dap_input.specs.{declared.limits.Limits.Limits, declared.refused.Refused.Refused}
use Rattle.dap_input.specs.Engine.{Accepts, FailsToRead, RefusesInput}
use Rattle.dap_rules.specs.Applying.{IsNotNormalised, IsRefusedByRules, MakesSession}
use Rattle.dap_rules.specs.{Ordering.ReadsSomeOrAll, declared.fault.ApplyRefused.ApplyRefused}
use Rattle.dap_rules.specs.declared.fault.ApplyRefused.TheVariants as because

-- A reader, given by its model, and rules.
module _ {R : Type 0} (source : Source R) (limits : Limits) (mode : Mode) (mask : Mask) where
  -- The rules cannot mask the recording, for this reason.
  abbrev pub CannotMask : List ℕ → Refused → Type 0
  CannotMask recording refused =
      IsRefusedByRules limits mode mask recording (because.Mask refused)

  -- These bytes were read. The rules mask them. They cannot put them in order, or the result is
  -- rejected, for this reason.
  pub record CannotOrder (old new : R) (refused : Refused) : Type 0 where
    pub bytes : List ℕ
    pub stop : Stop
    pub came : HasReadInput source old new limits.input bytes stop
    pub is_refused : IsNotNormalised limits mode mask bytes (because.Order refused)

  -- The messages are those into which the rules turn the whole input; or the first step that fails
  -- is reported. An input that cannot be masked because it is incomplete is reported only if the
  -- reader reached its end. If the reader failed, the bytes read contain no error, except that they
  -- may be too incomplete to be masked. If an allocation failed, a prefix of the input was read,
  -- and the reader did not fail; or the input was read until it stopped.
  abbrev pub ReadsSessionByRules : R → R → Result StoredSession ApplyRefused → Type 0
  ReadsSessionByRules old new (Ok session) =
      Accepts source limits.input (MakesSession limits mode mask) old new (messages_of session)
  ReadsSessionByRules old new (Err (because.Mask refused)) =
      RefusesInput source limits.input CannotMask old new refused
  ReadsSessionByRules old new (Err (because.Order refused)) = CannotOrder old new refused
  ReadsSessionByRules old new (Err because.ReadFault) =
      FailsToRead source limits.input (MakesSession limits mode mask) CannotMask old new
  ReadsSessionByRules old new (Err because.Memory) = ReadsSomeOrAll source limits.input old new
