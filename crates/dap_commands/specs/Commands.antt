-- The program's command line, as `clap` reads it, and the command that it selects. Source: own.
use Rattle.std.specs.Prelude.{◌≡◌, ◌||◌, Bool, true, false, List, [], ◌∷◌, Option, Some, None, IfOk}
use Rattle.std.specs.Prelude.{IfErr, Result, codes, if◌then◌else◌, is_some, option_and_then}
use Rattle.std.specs.{Option.{option_map_or, unwrap_or}, Str.bytes_eq}
use Rattle.clap.specs.Words.{App, Row, Rule, Text, all_of, fault_of, first_of, subcommand_of, takes}
use Rattle.dap_commands.specs.Arguments.{file, flag, option, optional, program_with, repeated}
use Rattle.dap_commands.specs.{Arguments.subcommand, Jobs.mode_for, LeadingArguments.FirstDecides}
use Rattle.dap_commands.specs.Reading.{IsUsageErrorFor, has_flag, required}
use Rattle.dap_commands.specs.declared.commands.Command.{Command}
use Rattle.dap_commands.specs.declared.commands.Command.TheVariants as command
use Rattle.dap_commands.specs.declared.commands.Printed.{Printed}
use Rattle.dap_commands.specs.declared.commands.Printed.TheVariants as printed
use Rattle.dap_commands.specs.{declared.commands.Request.Request, declared.commands.Task.Task}
use Rattle.dap_commands.specs.declared.commands.Task.TheVariants as task
use Rattle.dap_commands.specs.declared.commands.UsageFault.{UsageFault}
use Rattle.dap_commands.specs.declared.commands.UsageFault.TheVariants.{Memory}

-- ---- the part of the program's definition that the parser reads

-- Flags that several subcommands have.
abbrev pub per_stop : Rule
per_stop = flag (codes "per-stop")

abbrev pub explain : Rule
explain = flag (codes "explain")

-- The files of the input and of the output, `[FILE]`, and `-o FILE` or `--output FILE`; 111 is `o`.
abbrev pub streams : List Rule
streams = optional (codes "FILE") ∷ record (option (codes "output")) { short = Some 111 } ∷ []

-- Two files, the rules and words for both, and these arguments.
abbrev pub two_files : List Rule → List Rule
two_files rules =
    file (codes "A") ∷ file (codes "B") ∷ option (codes "rules") ∷ repeated (codes "word") ∷ rules

-- The program, which has a version and requires a subcommand.
abbrev pub program : App
program = program_with (subcommand (codes "golden") (option (codes "rules")
    ∷ repeated (codes "word") ∷ per_stop ∷ flag (codes "open") ∷ flag (codes "update")
    ∷ file (codes "GOLDEN") ∷ optional (codes "INPUT") ∷ [])
    ∷ subcommand (codes "record") (explain ∷ streams)
    ∷ subcommand (codes "check") (flag (codes "complete") ∷ option (codes "rules")
    ∷ repeated (codes "word") ∷ per_stop ∷ explain ∷ optional (codes "FILE") ∷ [])
    ∷ subcommand (codes "normalise") (per_stop ∷ explain ∷ streams)
    ∷ subcommand (codes "compare") (two_files (per_stop ∷ explain ∷ []))
    ∷ subcommand (codes "diff") (two_files (per_stop ∷ explain ∷ flag (codes "all") ∷ []))
    ∷ subcommand (codes "suggest") (two_files (flag (codes "strict") ∷ explain ∷ []))
    ∷ subcommand (codes "show") (flag (codes "full") ∷ flag (codes "yaml")
    ∷ flag (codes "faulty") ∷ option (codes "record") ∷ explain ∷ streams)
    ∷ subcommand (codes "mask") (file (codes "RULES") ∷ repeated (codes "word") ∷ explain ∷ streams)
    ∷ subcommand (codes "order") (file (codes "RULES") ∷ streams)
    ∷ subcommand (codes "name") (file (codes "RULES") ∷ explain ∷ streams)
    ∷ subcommand (codes "compact") (explain ∷ streams)
    ∷ subcommand (codes "rows") (optional (codes "N") ∷ [])
    ∷ [])

-- ---- the command that the arguments select

-- The task of a subcommand that reads one input and writes one output.
abbrev pub task_of : Text → List Row → Option Task
task_of name given =
    if bytes_eq name (codes "record") then Some task.Record
    else if bytes_eq name (codes "normalise") then Some
    (task.Normalise (mode_for (has_flag (codes "per-stop") given)))
    else if bytes_eq name (codes "show") then Some (task.Show (record {
      full = has_flag (codes "full") given;
      yaml = has_flag (codes "yaml") given;
      faulty = has_flag (codes "faulty") given;
      «record» = first_of (codes "record") given;
    }))
    else if bytes_eq name (codes "mask") then Some (task.Mask (required (codes "RULES") given))
    else if bytes_eq name (codes "order") then Some (task.Order (required (codes "RULES") given))
    else if bytes_eq name (codes "name") then Some (task.Name (required (codes "RULES") given))
    else if bytes_eq name (codes "compact") then Some task.Compact
    else None

-- The command of `compare` or `diff` with this output.
abbrev pub pair_of : Printed → List Row → Command
pair_of kind given =
    command.Pair kind (required (codes "A") given) (required (codes "B") given)
    (first_of (codes "rules") given) (mode_for (has_flag (codes "per-stop") given))

-- The command of a subcommand with its arguments.
abbrev pub command_of : Text → List Row → Option Command
command_of name given = option_map_or (λ t. Some (command.Stream t (first_of (codes "FILE") given)
    (first_of (codes "output") given))) (task_of name given)
    (if bytes_eq name (codes "golden") then Some (command.Golden (record {
      golden = required (codes "GOLDEN") given;
      input = first_of (codes "INPUT") given;
      rules = first_of (codes "rules") given;
      mode = mode_for (has_flag (codes "per-stop") given);
      «open» = has_flag (codes "open") given;
      update = has_flag (codes "update") given;
    }))
    else if bytes_eq name (codes "check") then Some
    (command.Check (has_flag (codes "complete") given)
    (mode_for (has_flag (codes "per-stop") given)) (first_of (codes "FILE") given)
    (first_of (codes "rules") given))
    else if bytes_eq name (codes "compare") then Some (pair_of printed.Verdict given)
    else if bytes_eq name (codes "diff") then Some (pair_of (if has_flag (codes "all") given
    then printed.AllDifferences else printed.FirstDifference) given)
    else if bytes_eq name (codes "suggest") then Some
    (command.Suggest (has_flag (codes "strict") given) (required (codes "A") given)
    (required (codes "B") given) (first_of (codes "rules") given))
    else if bytes_eq name (codes "rows") then Some (command.Rows (first_of (codes "N") given))
    else None)

-- The command that the arguments of a line select.
abbrev pub command_named : App → List Text → Option Command
command_named app line = option_and_then (λ p. command_of p.0 p.1) (subcommand_of app line)

-- All values of the option `--word`, in the order of the arguments.
abbrev pub words_of : List Row → List Text
words_of given = unwrap_or (all_of (codes "word") given) []

abbrev pub words_named : App → List Text → List Text
words_named app line = option_map_or (λ p. words_of p.1) (subcommand_of app line) []

-- An error is explained: always for `golden` and `order`, otherwise by the flag.
abbrev pub is_explained : Text → List Row → Bool
is_explained name given =
    bytes_eq name (codes "golden") || (bytes_eq name (codes "order")
    || has_flag (codes "explain") given)

abbrev pub explain_named : App → List Text → Bool
explain_named app line = option_map_or (λ p. is_explained p.0 p.1) (subcommand_of app line) false

-- The result of reading a command line by this definition.
pub record IsRead (app : App) (line : List Text) (result : Result Request UsageFault) : Type 0 where
  pub ok : IfOk result (λ r. command_named app line ≡ Some r.command)
  pub words : IfOk result (λ r. words_named app line ≡ r.words.items)
  pub explained : IfOk result (λ r. explain_named app line ≡ r.explain)
  pub taken : IfOk result (λ r. fault_of app line ≡ [])
  pub err : IfErr result (λ fault. takes app line ≡ true → is_some (command_named app line) ≡ true
      → fault ≡ Memory)
  pub reported : IfErr result (IsUsageErrorFor (fault_of app line))
  pub first : IfErr result (λ fault. FirstDecides app line (λ kinds. IsUsageErrorFor kinds fault))
