use Rattle.std.proofs.Common.{◌+◌, ◌<◌, ◌≤◌, ◌∷◌, length, drop, ap, sym, ◌∙◌, arith}
use Rattle.std.proofs.lemmas.List.{drop_all}
use Rattle.dap_tokens.specs.Models.{label_or, labels_of}
use Rattle.dap_naming.specs.Documents.{below, here}
use Rattle.dap_naming.specs.DeclaredRules.{rules_of}
use Rattle.dap_naming.proofs.Choosing.{below_added, drop_first, labels_first, labels_last}
use Rattle.dap_naming.proofs.Choosing.{not_below}
use Rattle.dap_naming.proofs.choice.here_below.Goals as goal
use Rattle.dap_naming.proofs.choice.here_below.Goals.{then-is_only_member, else-is_only_member}

pub loop-rule-init : goal.loop-rule-init
loop-rule-init c =
    labels_first (labels_of c.none-labels.result)
    (here (below c.args.name.now (rules_of c.args.rules.now))) c.none-labels.ensures

pub loop-rule-preserved : goal.loop-rule-preserved
loop-rule-preserved c =
    let rs = c.args.rules.now in
    let k = c.args.name.now in
    let l = c.loop-rule in
    let i = l.rule-index in
    let r = c.rule-item.result in
    let lt : i < length rs = omega arith in
    let first = drop_first rs i r lt ∙ ap (λ x. x ∷ drop (i + 1) rs) (sym c.rule-item.is) in
    elim c.if-is_only_member.branch [
      | then-is_only_member w ↦ λ form. below_added (labels_of l.labels) k rs i r first form
          (labels_of c.if-is_only_member.labels)
          (sym c.is_only_member.ensures ∙ w.if-is_only_member.true)
          (ap labels_of w.labels-is ∙ w.add.ensures) ∙ l.invariant form
      | else-is_only_member w ↦ λ form.
          ap (λ x. label_or (labels_of x form) (here (below k (rules_of (drop (i + 1) rs))) form))
          w.labels-is
          ∙ ap (label_or (labels_of l.labels form))
          (not_below (labels_of l.labels) k rs i r first form
          (sym c.is_only_member.ensures ∙ w.if-is_only_member.false))
          ∙ l.invariant form
    ]

pub returns : goal.returns
returns c =
    let rs = c.args.rules.now in
    let k = c.args.name.now in
    let l = c.loop-rule in
    let done : length rs ≤ l.rule-index = omega arith in
    labels_last (labels_of l.labels) (here (below k (rules_of (drop l.rule-index rs))))
    (here (below k (rules_of rs)))
    (ap (λ ts. here (below k (rules_of ts))) (drop_all l.rule-index rs done)) l.invariant
