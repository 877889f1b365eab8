use Rattle.std.proofs.Common.{◌≡◌, ◌∙◌, ◌+◌, ◌<◌, ◌∷◌, ◌++◌, drop, length, ap, arith, sym, subst}
use Rattle.dap_mask.specs.Declarations.{declaration_of, declarations_of}
use Rattle.dap_naming.specs.DeclaredRules.{have_labels, rules_of}
use Rattle.dap_naming.specs.Sessions.{declared_by, rules_for}
use Rattle.dap_naming.proofs.Choosing.{drop_first}
use Rattle.dap_naming.proofs.FlatRules.{declared_then, label_declared, labels_then, not_declared}
use Rattle.dap_naming.proofs.FlatRules.{rest_declared}
use Rattle.dap_naming.proofs.flat_rules.applying.Goals as goal
use Rattle.dap_naming.proofs.flat_rules.applying.Goals.{then-applies_to+in_ok-add, else-applies_to}

pub loop-declaration-preserved : goal.loop-declaration-preserved
loop-declaration-preserved c =
    let l = c.loop-declaration in
    let xs = c.args.declarations.now in
    let i = l.declaration-index in
    let x = c.declaration-item.result in
    let lt : i < length xs = omega arith in
    let first = drop_first xs i x lt ∙ ap (λ y. y ∷ drop (i + 1) xs) (sym c.declaration-item.is) in
    let declared = rest_declared xs i x first l.invariant.declared in
    elim c.if-applies_to.branch [
      | then-applies_to+in_ok-add w ↦ record {
        told = λ d k n t. declared_then xs i x d (rules_of l.rules.items)
            (rules_for (declarations_of xs) d) first (l.invariant.told d k n t)
            (rules_of c.if-applies_to.rules.items)
            (sym (c.applies_to.ensures d k n t) ∙ w.if-applies_to.true)
            (ap (λ v. rules_of v.items) w.rules-is ∙ w.in_ok-add.ensures);
        labels = ap (λ v. have_labels (rules_of v.items)) w.rules-is
            ∙ ap have_labels w.in_ok-add.ensures
            ∙ labels_then (declared_by (declaration_of x)) (rules_of l.rules.items)
            (label_declared xs i x first l.invariant.declared) l.invariant.labels;
        declared = declared;
      }
      | else-applies_to w ↦ record {
        told = λ d k n t. subst (λ v. rules_of v.items
            ++ rules_for (declarations_of (drop (i + 1) xs)) d ≡ rules_for (declarations_of xs) d)
            (sym w.rules-is)
            (not_declared xs i x d (rules_of l.rules.items) (rules_for (declarations_of xs) d) first
            (l.invariant.told d k n t)
            (sym (c.applies_to.ensures d k n t) ∙ w.if-applies_to.false));
        labels = ap (λ v. have_labels (rules_of v.items)) w.rules-is ∙ l.invariant.labels;
        declared = declared;
      }
    ]
