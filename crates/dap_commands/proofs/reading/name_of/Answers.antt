use Rattle.std.proofs.Common.{◌∙◌, rules}
use Rattle.clap.proofs.WalkLemmas.{first_value-rows}
use Rattle.clap.specs.Words.{found_of}
use Rattle.dap_commands.proofs.reading.name_of.Goals as goal

pub returns-in_err-get_str : goal.returns-in_err-get_str
returns-in_err-get_str c =
    let rows = c.get_str.ensures ∙ first_value-rows (found_of c.args.rows.now) c.args.id.now in
    search rules

pub returns : goal.returns
returns c =
    let rows = c.get_str.ensures ∙ first_value-rows (found_of c.args.rows.now) c.args.id.now in
    search rules
