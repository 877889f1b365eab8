-- A golden file: the normal text of a recording. Source: own.
use Rattle.std.specs.Prelude.{◌≡◌, ◌↔◌, ℕ, Bool, true, List, Result, Ok, Err}
use Rattle.dap_device.specs.declared.device.Sink.{Ghosts as Sink}
use Rattle.dap_device.specs.Written.{AllSent, PrefixWritten}
use Rattle.dap_message.specs.Message.{Sent}
use Rattle.dap_rename.specs.Messages.{AreSame}
use Rattle.dap_rename.specs.Modes.{stop_in}
use Rattle.dap_rename.specs.declared.mode.Mode.{Mode}
use Rattle.dap_input.specs.declared.limits.Limits.{Limits}
use Rattle.dap_input.specs.declared.refused.Refused.{Refused}
use Rattle.dap_input.specs.declared.refused.Refused.TheVariants.{WriteFault}
use Rattle.dap_normalise.specs.Accepting.{IsAccepted}
use Rattle.dap_normalise.specs.Normalising.{IsCanonical, Normalises, RefusesBytes}

module _ {W : Type 0} (sink : Sink W) (limits : Limits) (mode : Mode) (recording : List ℕ)
    (old new : W) where
  -- The complete golden file of the recording was written and flushed.
  pub record HasMade : Type 0 where
    pub golden : List ℕ
    pub canonical : IsCanonical limits mode recording golden
    pub written : AllSent sink old new golden

  -- The file could not be written: a prefix of its text was written, possibly all of it.
  pub record HasNotMade : Type 0 where
    pub golden : List ℕ
    pub canonical : IsCanonical limits mode recording golden
    pub written : PrefixWritten sink old new golden

  -- The file was written; or it could not be written; or the recording is rejected and nothing was
  -- written.
  abbrev pub Makes : {U : Type 0} → Result U Refused → Type 0
  Makes (Ok done) = HasMade
  Makes (Err WriteFault) = HasNotMade
  Makes (Err refused) = RefusesBytes limits mode recording refused × (new ≡ old)

-- The later recording is accepted, and the result is true if and only if the golden file is its
-- normal text. If the golden file is that of some recording, this means: a one-to-one renaming of
-- ids maps the messages of the later recording, in order, to those of that recording.
pub record IsHeldTo (limits : Limits) (mode : Mode) (golden later : List ℕ) (held : Bool) : Type 0
  where
    pub messages : List Sent
    pub accepts : IsAccepted limits mode later messages
    pub exact : (held ≡ true) ↔ Normalises limits mode later golden
    pub tells : (recording : List ℕ) (made : Normalises limits mode recording golden)
        → (held ≡ true) ↔ AreSame (stop_in mode) messages made.messages
