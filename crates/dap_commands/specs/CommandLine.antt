-- The command line of the library, as `clap` reads it, and the job that it selects. Source: own.
use Rattle.std.specs.Prelude.{Bool, List, [], ◌∷◌, Option, Some, None, codes, option_and_then}
use Rattle.clap.specs.Words.{App, Text}
use Rattle.dap_commands.specs.Arguments.{file, flag, program_with, subcommand}
use Rattle.dap_commands.specs.{Commands.command_named, Jobs.mode_for}
use Rattle.dap_commands.specs.declared.commands.Command.{Command}
use Rattle.dap_commands.specs.declared.commands.Command.TheVariants as command
use Rattle.dap_commands.specs.declared.commands.Job.{Job}
use Rattle.dap_commands.specs.declared.commands.Job.TheVariants as job
use Rattle.dap_commands.specs.declared.commands.Task.TheVariants as task
use Rattle.dap_rename.specs.declared.mode.Mode.{Mode}

-- The program, which has a version and requires a subcommand.
abbrev pub program : App
program = program_with (subcommand (codes "compact") []
    ∷ subcommand (codes "record") []
    ∷ subcommand (codes "normalise") (flag (codes "per-stop") ∷ [])
    ∷ subcommand (codes "check") (flag (codes "complete") ∷ flag (codes "per-stop") ∷ [])
    ∷ subcommand (codes "show") []
    ∷ subcommand (codes "compare") (file (codes "A") ∷ file (codes "B")
    ∷ flag (codes "per-stop") ∷ [])
    ∷ [])

-- A job, with the byte strings of its arguments.
pub data JobSpec : Type 0 where
  compact : JobSpec
  recording : JobSpec
  normalise : Mode → JobSpec
  check : Bool → Mode → JobSpec
  show : JobSpec
  compare : Text → Text → Mode → JobSpec

abbrev pub job_spec : Job → JobSpec
job_spec job.Compact = compact
job_spec job.Record = recording
job_spec (job.Normalise per_stop) = normalise (mode_for per_stop)
job_spec (job.Check complete per_stop) = check complete (mode_for per_stop)
job_spec job.Show = show
job_spec (job.Compare a b per_stop) = compare a.now b.now (mode_for per_stop)

-- The job of a command, whatever files and output the command has.
abbrev pub job_of : Command → Option JobSpec
job_of (command.Stream task.Compact input output) = Some compact
job_of (command.Stream task.Record input output) = Some recording
job_of (command.Stream (task.Normalise mode) input output) = Some (normalise mode)
job_of (command.Stream (task.Show options) input output) = Some show
job_of (command.Check complete mode input rules) = Some (check complete mode)
job_of (command.Pair printed a b rules mode) = Some (compare a b mode)
job_of other = None

-- The job that the arguments of a line select.
abbrev pub job_named : App → List Text → Option JobSpec
job_named app line = option_and_then job_of (command_named app line)
