use Rattle.std.proofs.Common.{rules, arith}
use Rattle.std.proofs.lemmas.Grind.{common_steps}
use Rattle.dap_suggest.proofs.tallies.Tally.hidden.Goals as goal

pub returns : goal.returns
returns c = λ values have.
    let counts = have c.args.actions c.args.others in
    first_of (search rules, grind (arith, common_steps))
