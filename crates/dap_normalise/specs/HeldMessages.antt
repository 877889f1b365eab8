-- When two outputs represent messages that are the same. Source: own.
use Rattle.std.specs.Prelude.{List}
use Rattle.dap_message.specs.Message.{Sent}
use Rattle.dap_rename.specs.{Messages.AreSame, Modes.stop_in}
use Rattle.dap_normalise.specs.Normalised.{NormalText, Holds}

-- Both outputs represent some messages, and a renaming in the mode of the first maps those of the
-- first to those of the second.
abbrev pub HoldTheSame : NormalText → NormalText → Type 0
HoldTheSame one other = (messages : List Sent) × (held : List Sent) × Holds one messages
    × Holds other held × AreSame (stop_in one.mode) messages held
