-- The messages that count as stops, for each mode.
use Rattle.std.specs.Prelude.{ℕ, Bool, cond, ◌&&◌, codes}
use Rattle.dap_tree.specs.Doc.{get}
use Rattle.dap_profile.specs.declared.profile.Kind.TheVariants.{Event}
use Rattle.dap_message.specs.Message.{Sent}
use Rattle.dap_message.specs.Rows.{is_of_kind, is_text, name_key}
use Rattle.dap_rename.specs.Messages.{no_stop}
use Rattle.dap_rename.specs.declared.mode.Mode.{Mode}
use Rattle.dap_rename.specs.declared.mode.Mode.TheVariants.{Whole, PerStop}

-- The message is an event with the name `stopped` (DAP specification, Stopped event).
unfoldable pub is_stopped : Sent → Bool
is_stopped m = is_of_kind Event m.doc && is_text (codes "stopped") (get (name_key Event) m.doc)

-- The number of stops that a message counts as (own): always 0 with `Whole`, and 1 for a `stopped`
-- event with `PerStop`. The event itself belongs to the classes before it.
abbrev pub stop_in : Mode → Sent → ℕ
stop_in Whole = no_stop
stop_in PerStop = λ m. cond (is_stopped m) 1 0
