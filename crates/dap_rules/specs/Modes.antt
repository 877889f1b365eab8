-- The mode in which the ids of a recording are numbered after rules. Source: own.
use Rattle.std.specs.Prelude.{cond}
use Rattle.dap_mask.specs.Mask.{Mask}
use Rattle.dap_rename.specs.{declared.mode.Mode.Mode, declared.mode.Mode.TheVariants.PerStop}

-- The mode of the caller, or `PerStop` if the rules have the line `per-stop`.
abbrev pub mode_by : Mask → Mode → Mode
mode_by mask mode = cond mask.per_stop PerStop mode
