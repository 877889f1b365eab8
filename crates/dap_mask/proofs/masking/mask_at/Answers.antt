use Rattle.std.proofs.Common.{sym, ap, ◌∙◌}
use Rattle.std.proofs.lemmas.Bool.{ltb-true}
use Rattle.dap_tree.specs.View.{view}
use Rattle.dap_mask.specs.Index.{masked_by}
use Rattle.dap_mask.proofs.Indexed.{rule_found, no_rule_found}
use Rattle.dap_mask.proofs.masking.mask_at.Goals as goal

pub returns-in-Some : goal.returns-in-Some
returns-in-Some c =
    c.mask_by.ensures
    ∙ ap (λ o. masked_by o (view c.args.tree.now))
    (sym (rule_found c.args.rules.now c.args.place c.in-Some.rule.now
    (ltb-true _ _ (sym c.in-Some.ensures.lookup.0)) c.in-Some.ensures.lookup.1))

pub returns-in-None : goal.returns-in-None
returns-in-None c =
    ap (λ o. masked_by o (view c.args.tree.now))
    (sym (no_rule_found c.args.rules.now c.args.place c.in-None.ensures.lookup.3))
