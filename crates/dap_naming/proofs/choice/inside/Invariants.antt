use Rattle.std.proofs.Common.{◌≡◌, ◌++◌, drop}
use Rattle.dap_tree.specs.View.{view}
use Rattle.dap_naming.specs.Documents.{is_to_element}
use Rattle.dap_naming.specs.DeclaredRules.{rules_of}
use Rattle.dap_naming.proofs.Choosing.{left_by}
use Rattle.dap_naming.proofs.choice.inside.Given as goal

abbrev pub invariant-loop-rule : goal.invariant-loop-rule
invariant-loop-rule l =
    rules_of l.left.items
    ++ left_by (is_to_element (view l.element)) (rules_of (drop l.rule-index l.rules))
    ≡ left_by (is_to_element (view l.element)) (rules_of l.rules)
