use Rattle.std.proofs.Common.{◌∙◌, ◌==◌, ap, sym}
use Rattle.dap_tree.specs.View.{view}
use Rattle.dap_mask.specs.Declarations.{declarations_of}
use Rattle.dap_naming.specs.DeclaredRules.{rules_of, have_labels}
use Rattle.dap_naming.proofs.Applying.{labels_for}
use Rattle.dap_naming.proofs.Choosing.{no_rules}
use Rattle.dap_naming.proofs.JointNaming.{unruled_in_b}
use Rattle.dap_naming.proofs.joint.JointNames.name_b.Goals as goal

pub name_tree-result-requires : goal.name_tree-result-requires
name_tree-result-requires c =
    ap have_labels (ap rules_of c.deref.ensures.value ∙ c.in_ok-rules.ensures)
    ∙ labels_for (declarations_of c.args.declarations.now) (view c.args.tree.now) c.requires

pub returns-then-is_empty-clause-names : goal.returns-then-is_empty-clause-names
returns-then-is_empty-clause-names c =
    unruled_in_b c.args.self.now (declarations_of c.args.declarations.now)
    (view c.args.tree.now)
    (sym c.in_ok-rules.ensures
    ∙ no_rules c.in_ok-rules.rules.items (sym (ap (λ n. n == 0) c.in_ok-rules.rules.ok.0)
    ∙ sym c.is_empty.ensures ∙ c.if-is_empty.true))
