use Rattle.std.proofs.Common.{◌∙◌, sym, ap}
use Rattle.std.specs.List.{list_any}
use Rattle.dap_mask.specs.Declarations.{declaration_of, is_own_label, same_declaration}
use Rattle.dap_mask.specs.ListedRules.{listed_mask}
use Rattle.dap_mask.proofs.Lists.{any_mapped}
use Rattle.dap_mask.proofs.RulesBehind.{exclusion_cause}
use Rattle.dap_mask.proofs.rule_list.RuleList.declaration_cause.Goals as goal

pub returns-else-is_declared_among : goal.returns-else-is_declared_among
returns-else-is_declared_among c =
    let x = declaration_of c.args.rule.now in
    exclusion_cause (listed_mask c.args.self.now) x c.excludes_declaration.result c.cause_if.result
    (ap is_own_label (sym c.as_str.ensures.value) ∙ sym c.is_own_label.ensures
    ∙ c.if-not-is_own_label.false)
    (sym c.is_misdeclared.ensures ∙ c.if-is_misdeclared.false)
    (any_mapped (same_declaration x) declaration_of c.args.self.now.declared.items
    ∙ ap (list_any (λ y. same_declaration x (declaration_of y))) (sym c.deref.ensures.value)
    ∙ sym c.is_declared_among.ensures ∙ c.if-is_declared_among.false)
    c.excludes_declaration.ensures c.cause_if.ensures
