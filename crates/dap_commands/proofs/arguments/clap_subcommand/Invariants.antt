use Rattle.std.proofs.Common.{map, take}
use Rattle.dap_commands.specs.Arguments.{IsSubcommand, rule_for, subcommand}
use Rattle.dap_commands.proofs.arguments.clap_subcommand.Given as goal

abbrev pub invariant-loop-argument : goal.invariant-loop-argument
invariant-loop-argument l =
    IsSubcommand
    (subcommand l.row.name.now (map rule_for (take l.argument-index l.row.arguments.now)))
    l.command
