use Rattle.std.proofs.Common.{◌∙◌, ap, sym}
use Rattle.dap_mask.specs.Declarations.{declarations_of}
use Rattle.dap_naming.specs.DeclaredRules.{rules_of}
use Rattle.dap_naming.proofs.FlatRules.{none_apply}
use Rattle.dap_naming.proofs.flat_rules.flat_rules.Goals as goal

pub kind_rules-requires-clause-kind : goal.kind_rules-requires-clause-kind
kind_rules-requires-clause-kind c d h = sym c.in-Some.is ∙ c.in_ok-kind.ensures d h

pub returns-in-None-clause-told : goal.returns-in-None-clause-told
returns-in-None-clause-told c d h =
    let told = sym (c.in_ok-kind.ensures d h) ∙ c.in-None.is in
    ap rules_of c.new.ensures.items
    ∙ sym (none_apply (declarations_of c.args.declarations.now) d told)
