-- The mode in which a job numbers ids. Source: own.
use Rattle.std.specs.Prelude.{Bool, true, false}
use Rattle.dap_rename.specs.declared.mode.Mode.{Mode}
use Rattle.dap_rename.specs.declared.mode.Mode.TheVariants.{Whole, PerStop}
use Rattle.dap_commands.specs.declared.commands.Job.{Job}
use Rattle.dap_commands.specs.declared.commands.Job.TheVariants.{Normalise, Check, Compare}

-- The mode that the option `--per-stop` selects.
abbrev pub mode_for : Bool → Mode
mode_for true = PerStop
mode_for false = Whole

-- The mode in which a job numbers ids. It is `Whole` for a job that does not number ids.
abbrev pub job_mode : Job → Mode
job_mode (Normalise per_stop) = mode_for per_stop
job_mode (Check complete per_stop) = mode_for per_stop
job_mode (Compare a b per_stop) = mode_for per_stop
job_mode job = Whole
