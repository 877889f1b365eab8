use Rattle.std.proofs.Common.{◌≡◌, ◌∙◌, ◌∷◌, ◌++◌, List, [], ap, ap₂, sym}
use Rattle.std.proofs.lemmas.List.{map_more}
use Rattle.clap.proofs.SimpleLemmas.{not_empty, plain_fields}
use Rattle.clap.specs.Words.{App, Shape, with_subcommand}
use Rattle.dap_commands.specs.Arguments.{program_with, shape_for}
use Rattle.dap_commands.proofs.arguments.clap_program.Goals as goal

more : (subs : List Shape) (s : Shape)
    → with_subcommand (program_with subs) s ≡ program_with (subs ++ s ∷ [])
more subs s =
    let new = program_with (subs ++ s ∷ []) in
    ap (λ leaf. record new { top = record new.top { is_leaf = leaf } }) (sym (not_empty subs s))

pub loop-row-preserved : goal.loop-row-preserved
loop-row-preserved c =
    let sub = c.in_ok-clap_subcommand.ensures in
    c.in_ok-command.ensures.shape
    (plain_fields c.in_ok-clap_subcommand.field-0 (ap (λ (a : App). a.top.is_plain) sub)).globals
    ∙ ap₂ with_subcommand c.loop-row.invariant (ap (λ (a : App). a.top) sub) ∙ more _ _
    ∙ ap program_with (sym (map_more shape_for c.args.program.now.subcommands.now
    c.loop-row.row-index _ c.loop-row-test.true))
