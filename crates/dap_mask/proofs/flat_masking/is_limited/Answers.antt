use Rattle.std.proofs.Common.{sym, ap, ◌∙◌}
use Rattle.std.proofs.lemmas.Bool.{ltb-true}
use Rattle.dap_mask.specs.FlatMasking.{is_limited}
use Rattle.dap_mask.proofs.Indexed.{limit_known, rule_found, no_rule_found}
use Rattle.dap_mask.proofs.flat_masking.is_limited.Goals as goal

pub returns-in-Some : goal.returns-in-Some
returns-in-Some c =
    c.is_some.ensures ∙ limit_known c.in-Some.rule.now
    ∙ ap is_limited
    (sym (rule_found c.args.rules.now c.args.place c.in-Some.rule.now
    (ltb-true _ _ (sym c.in-Some.ensures.lookup.0)) c.in-Some.ensures.lookup.1))

pub returns-in-None : goal.returns-in-None
returns-in-None c =
    ap is_limited (sym (no_rule_found c.args.rules.now c.args.place c.in-None.ensures.lookup.3))
