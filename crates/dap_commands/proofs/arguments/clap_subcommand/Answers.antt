use Rattle.std.proofs.Common.{◌∙◌, List, [], ap, ap₂, sym}
use Rattle.std.proofs.lemmas.List.{map_more}
use Rattle.clap.specs.Words.{App, Rule, with_rule}
use Rattle.dap_commands.specs.Arguments.{rule_for, subcommand}
use Rattle.dap_commands.proofs.arguments.clap_subcommand.Goals as goal

pub loop-argument-preserved : goal.loop-argument-preserved
loop-argument-preserved c =
    let row = c.args.row.now in
    let of_rules : List Rule → App =
    λ rules. record { top = subcommand row.name.now rules; subs = [] } in
    c.in_ok-command.ensures.shape c.clap_argument.ensures.local
    ∙ ap₂ with_rule c.loop-argument.invariant c.clap_argument.ensures.is_read
    ∙ ap of_rules (sym (map_more rule_for row.arguments.now c.loop-argument.argument-index _
    c.loop-argument-test.true))
