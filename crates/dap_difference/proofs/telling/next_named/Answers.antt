use Rattle.std.proofs.Common.{◌≡◌, sym, ◌∙◌, rules, string_bytes, arith}
use Rattle.std.proofs.lemmas.Grind.{common_steps}
use Rattle.dap_difference.proofs.telling.next_named.Goals as goal

pub returns-then-eq : goal.returns-then-eq
returns-then-eq c =
    let named : string_bytes c.in-Some.other.now ≡ c.args.name.now =
    first_of (search rules, grind (arith, common_steps)) in
    (c.in-Some.other.now, named, sym c.in_ok-ahead.ensures.cases ∙ c.in-Some.ensures.steps)
