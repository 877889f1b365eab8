-- The result of one pass over a recording: its normal text and its counts. Source: own.
use Rattle.std.specs.Prelude.{ℕ, List}
use Rattle.dap_rename.specs.declared.mode.Mode.{Mode}
use Rattle.dap_input.specs.declared.limits.Limits.{Limits}
use Rattle.dap_normalise.specs.{Checking.AreCounted, Normalising.IsCanonical}
use Rattle.dap_normalise.specs.declared.normal_session.NormalSession.{NormalSession}

-- The bytes are the normal text of the recording, and the counts are those of its messages.
pub record IsNormalSession (limits : Limits) (mode : Mode) (recording : List ℕ)
    (session : NormalSession) : Type 0 where
  pub canonical : IsCanonical limits mode recording session.bytes.items
  pub counted : AreCounted session.counts canonical.normalises.messages
