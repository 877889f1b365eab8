use Rattle.std.proofs.Common.{◌∙◌, sym, ap, Some, None, cond}
use Rattle.std.specs.List.{list_any}
use Rattle.dap_mask.specs.Declarations.{declaration_of, blurs, blurs_one_of}
use Rattle.dap_mask.specs.ListedRules.{listed_mask, listed_declared}
use Rattle.dap_mask.specs.Rules.{rule_of, same_rule}
use Rattle.dap_mask.specs.declared.fault.RulesCause.TheVariants.{Clash}
use Rattle.dap_mask.proofs.Lists.{any_mapped}
use Rattle.dap_mask.proofs.RulesBehind.{clash_cause}
use Rattle.dap_mask.proofs.rule_list.RuleList.change_cause.Goals as goal

pub returns-then-clashes : goal.returns-then-clashes
returns-then-clashes c =
    let r = rule_of c.args.rule.now in
    let blurred = blurs_one_of r (listed_declared c.args.self.now) in
    clash_cause (listed_mask c.args.self.now) r c.clashes.result (Some Clash)
    (sym c.is_forbidden.ensures ∙ c.if-is_forbidden.false)
    (any_mapped (same_rule r) rule_of c.args.self.now.changes.items
    ∙ ap (list_any (λ q. same_rule r (rule_of q))) (sym c.deref.ensures.value)
    ∙ sym c.is_among.ensures ∙ c.if-is_among.false)
    c.clashes.ensures
    (sym (ap (λ b. cond b (Some Clash) (cond blurred (Some Clash) None)) c.if-clashes.true))

pub returns-else-clashes : goal.returns-else-clashes
returns-else-clashes c =
    let r = rule_of c.args.rule.now in
    let blurred = blurs_one_of r (listed_declared c.args.self.now) in
    clash_cause (listed_mask c.args.self.now) r c.clashes.result c.cause_if.result
    (sym c.is_forbidden.ensures ∙ c.if-is_forbidden.false)
    (any_mapped (same_rule r) rule_of c.args.self.now.changes.items
    ∙ ap (list_any (λ q. same_rule r (rule_of q))) (sym c.deref.ensures.value)
    ∙ sym c.is_among.ensures ∙ c.if-is_among.false)
    c.clashes.ensures
    (c.cause_if.ensures
    ∙ ap (λ b. cond b (Some Clash) None) (c.blurs_one_of.ensures
    ∙ ap (list_any (λ x. blurs r (declaration_of x))) c.deref-else-clashes.ensures.value
    ∙ sym (any_mapped (blurs r) declaration_of c.args.self.now.declared.items))
    ∙ sym (ap (λ b. cond b (Some Clash) (cond blurred (Some Clash) None)) c.if-clashes.false))
