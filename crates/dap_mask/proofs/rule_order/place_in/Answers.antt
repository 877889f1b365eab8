use Rattle.std.proofs.Common.{◌∙◌, sym, ap}
use Rattle.std.specs.Prelude.{insert}
use Rattle.dap_mask.specs.Rules.{rule_of, rules_of, comes_before}
use Rattle.dap_mask.proofs.RulesBehind.{inserted_at, found_at, found_none}
use Rattle.dap_mask.proofs.rule_order.place_in.Goals as goal

pub returns-in-Some-clause-within : goal.returns-in-Some-clause-within
returns-in-Some-clause-within c =
    let rule = rule_of c.args.rule.now in
    let here = found_at (λ r. comes_before rule (rule_of r)) c.args.rules.now c.in-Some.place
    (sym c.first_after.ensures ∙ c.in-Some.is) in
    here.0

pub returns-in-Some-clause-place : goal.returns-in-Some-clause-place
returns-in-Some-clause-place c =
    let rule = rule_of c.args.rule.now in
    let here = found_at (λ r. comes_before rule (rule_of r)) c.args.rules.now c.in-Some.place
    (sym c.first_after.ensures ∙ c.in-Some.is) in
    ap (λ i. insert (rules_of c.args.rules.now) i rule) here.1
    ∙ inserted_at c.args.rules.now rule

pub returns-in-None-clause-place : goal.returns-in-None-clause-place
returns-in-None-clause-place c =
    let rule = rule_of c.args.rule.now in
    let here = found_none (λ r. comes_before rule (rule_of r)) c.args.rules.now
    (sym c.first_after.ensures ∙ c.in-None.is) in
    ap (λ i. insert (rules_of c.args.rules.now) i rule) here
    ∙ inserted_at c.args.rules.now rule
