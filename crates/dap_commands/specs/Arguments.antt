-- The part of a command line's definition that the parser reads, and a definition by values.
-- Source: own.
use Rattle.std.specs.Prelude.{◌≡◌, List, [], map, Some, true, false, codes}
use Rattle.clap.specs.{Simple.new_shape, Walk.is_empty}
use Rattle.clap.specs.{Words.{App, Rule, Shape, Text, app_of, new_rule, rule_of}, declared.Arg.Arg}
use Rattle.clap.specs.declared.Command.{Command as Definition}
use Rattle.clap.specs.declared.builder.ArgAction.TheVariants.{Append, Set, SetTrue}
use Rattle.dap_commands.specs.{declared.arguments.Argument.Argument, declared.arguments.Kind.Kind}
use Rattle.dap_commands.specs.declared.arguments.Kind.TheVariants as kind
use Rattle.dap_commands.specs.declared.arguments.Program.{Program}
use Rattle.dap_commands.specs.declared.arguments.Subcommand.{Subcommand}

-- ---- arguments and subcommands

-- A flag, such as `--open`.
abbrev pub flag : Text → Rule
flag name = record (new_rule name) { long = Some name; action = Some SetTrue }

-- An option with a value, such as `--rules RULES`.
abbrev pub option : Text → Rule
option name = record (new_rule name) { long = Some name; action = Some Set; value_names = 1 }

-- An option with a value that may be given several times, such as `--word TEXT=WORD`.
abbrev pub repeated : Text → Rule
repeated name = record (option name) { action = Some Append }

-- An optional argument, such as `[INPUT]`.
abbrev pub optional : Text → Rule
optional name = record (new_rule name) { action = Some Set }

-- A required argument, such as `GOLDEN`.
abbrev pub file : Text → Rule
file name = record (optional name) { required = true }

-- A subcommand with these arguments.
abbrev pub subcommand : Text → List Rule → Shape
subcommand name rules = record (new_shape name) { rules = rules }

-- The program with these subcommands. It has a version and requires a subcommand.
abbrev pub program_with : List Shape → App
program_with subcommands = record {
  top = record (new_shape (codes "dapnorm")) {
    is_leaf = is_empty subcommands;
    has_version = true;
    subcommand_required = true;
  };
  subs = subcommands;
}

-- ---- a definition by values

-- The rule by which the parser reads an argument of this kind and name.
abbrev pub rule_by : Kind → Text → Rule
rule_by kind.Flag name = flag name
rule_by (kind.Value value) name = option name
rule_by (kind.Values value) name = repeated name
rule_by (kind.Lettered letter value) name = record (option name) { short = Some letter }
rule_by kind.File name = file name
rule_by kind.Optional name = optional name

abbrev pub rule_for : Argument → Rule
rule_for a = rule_by a.1 a.0.now

-- A subcommand with its arguments.
abbrev pub shape_for : Subcommand → Shape
shape_for row = subcommand row.name.now (map rule_for row.arguments.now)

-- A program with its subcommands.
abbrev pub app_for : Program → App
app_for program = program_with (map shape_for program.subcommands.now)

-- The argument is read by this rule, and is not global.
pub record IsArgument (rule : Rule) (a : Arg) : Type 0 where
  pub is_read : rule_of a ≡ rule
  pub local : a.global ≡ false

-- The definition is that of this subcommand.
abbrev pub IsSubcommand : Shape → Definition → Type 0
IsSubcommand shape command = app_of command ≡ record { top = shape; subs = [] }
