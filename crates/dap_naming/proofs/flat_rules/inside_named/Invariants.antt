use Rattle.std.proofs.Common.{◌≡◌, ◌++◌, drop}
use Rattle.dap_flat_message.specs.Heads.{text_in}
use Rattle.dap_naming.specs.DeclaredRules.{rules_of}
use Rattle.dap_naming.specs.Flat.{is_to_named}
use Rattle.dap_naming.proofs.Choosing.{left_by}
use Rattle.dap_naming.proofs.flat_rules.inside_named.Given as goal

abbrev pub invariant-loop-rule : goal.invariant-loop-rule
invariant-loop-rule l =
    rules_of l.left.items
    ++ left_by (is_to_named (text_in l.name)) (rules_of (drop l.rule-index l.rules))
    ≡ left_by (is_to_named (text_in l.name)) (rules_of l.rules)
