use Rattle.std.proofs.Common.{◌≡◌, ℕ, List, [], Ok, Err, ap, cond, inl, inr, refl, rules, subst}
use Rattle.std.{proofs.lemmas.Str.{IsUtf8-nil, is_utf8-from_IsUtf8}, specs.Prelude.is_ok}
use Rattle.dap_mask.specs.{Mask.no_rules, RuleText.line_said}
use Rattle.dap_mask.specs.RulesFile.{outcome_of, outcome_then, rules_said}
use Rattle.dap_mask.specs.declared.fault.RulesCause.{RulesCause}
use Rattle.dapnorm.specs.WordOption.{HasLinesOf, HasNoLines}
use Rattle.dapnorm.proofs.running.answered.Goals as goal

-- An empty rules file contains no rule.
nothing_said : rules_said [] ≡ Ok no_rules
unfolding rules_said
nothing_said =
    ap (λ utf8. outcome_then 1 (λ mask. Ok mask) (cond utf8 (outcome_of no_rules (line_said []))
    (Err RulesCause.NotUtf8))) (is_utf8-from_IsUtf8 [] IsUtf8-nil)

pub returns-in-Ok-clause-answered : goal.returns-in-Ok-clause-answered
returns-in-Ok-clause-answered g c =
    let lines = subst (λ (text : List ℕ). HasLinesOf c.args.words.now text c.in-Ok.field-0.items)
    c.new.ensures.items c.in-Ok.ensures.ok in
    inr (
      record {
        rules = c.in-Ok.field-0.items;
        lines = lines;
        accepted = lines.accepted (ap is_ok nothing_said);
      },
      c.done.ensures.done,
    )

pub returns-clause-answered : goal.returns-clause-answered
returns-clause-answered g c = inl record {
  fault = c.in-Err.fault;
  no_lines = subst (λ (text : List ℕ). HasNoLines c.args.words.now text c.in-Err.fault)
      c.new.ensures.items c.in-Err.ensures.err;
  outcome_is = refl;
  unopened = search rules;
}
