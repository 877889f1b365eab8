use Rattle.std.proofs.Common.{◌≡◌, map, take}
use Rattle.clap.specs.Words.{app_of}
use Rattle.dap_commands.specs.Arguments.{program_with, shape_for}
use Rattle.dap_commands.proofs.arguments.clap_program.Given as goal

abbrev pub invariant-loop-row : goal.invariant-loop-row
invariant-loop-row l =
    app_of l.command ≡ program_with (map shape_for (take l.row-index l.program.subcommands.now))
