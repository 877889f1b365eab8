use Rattle.std.proofs.Common.{◌≡◌, arith, rules}
use Rattle.std.proofs.lemmas.Grind.{common_steps}
use Rattle.dap_suggest.proofs.confirming.compare_by.Goals as goal

pub returns-then-eq : goal.returns-then-eq
returns-then-eq c =
    let one_text : c.in_ok-a.a.bytes.items ≡ c.in_ok-b.b.bytes.items =
    first_of (search rules, grind (arith, common_steps)) in
    record {
      of_a = c.in_ok-a.a;
      of_b = c.in_ok-b.b;
      a_is = c.in_ok-a.ensures;
      b_is = c.in_ok-b.ensures;
      one_text = one_text;
    }
