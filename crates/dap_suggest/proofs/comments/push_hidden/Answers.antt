use Rattle.std.proofs.Common.{rules, ◌≡◌, ◌++◌, ◌∙◌, ap, ℕ, false, eqb, List, Result, Ok, Err}
use Rattle.std.proofs.Common.{OnOk, if◌then◌else◌, is_ok}
use Rattle.std.specs.declared.alloc.AllocError.{AllocError}
use Rattle.dap_suggest.proofs.comments.push_hidden.Goals as goal

pushed : (r : Result (Unit {0}) AllocError) (new old bytes line : List ℕ)
    → new ≡ (if is_ok r then old ++ bytes else old) → bytes ≡ line → OnOk r (new ≡ old ++ line)
pushed (Ok x) new old bytes line is same = is ∙ ap (λ b. old ++ b) same
pushed (Err e) new old bytes line is same = tt

pub returns-in_ok-line-in_default-clause-ok : goal.returns-in_ok-line-in_default-clause-ok
returns-in_ok-line-in_default-clause-ok c =
    let some : eqb c.args.hidden 0 ≡ false = search rules in
    let several : eqb c.args.hidden 1 ≡ false = search rules in
    rw (some, several)
    (pushed c.extend_from_slice-in_default.result c.extend_from_slice-in_default.new.self.items
    c.args.out.now.items c.as_bytes.result.now _ c.extend_from_slice-in_default.ensures.items
    (c.as_bytes.ensures.value ∙ c.in_ok-line-in_default.ensures.ok))
