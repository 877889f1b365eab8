use Rattle.std.proofs.Common.{◌+◌, ◌<◌, ◌≤◌, ◌∷◌, length, drop, ap, sym, ◌∙◌, arith}
use Rattle.std.proofs.lemmas.List.{drop_all}
use Rattle.dap_tokens.specs.Models.{label_or, labels_of}
use Rattle.dap_naming.specs.Documents.{here}
use Rattle.dap_naming.specs.DeclaredRules.{rules_of}
use Rattle.dap_naming.proofs.Choosing.{drop_first, here_added, here_skipped, labels_first}
use Rattle.dap_naming.proofs.Choosing.{labels_last, place_here}
use Rattle.dap_naming.proofs.choice.here.Goals as goal
use Rattle.dap_naming.proofs.choice.here.Goals.{then-is_empty, else-is_empty}

pub loop-rule-init : goal.loop-rule-init
loop-rule-init c =
    labels_first (labels_of c.none-labels.result) (here (rules_of c.args.rules.now))
    c.none-labels.ensures

pub loop-rule-preserved : goal.loop-rule-preserved
loop-rule-preserved c =
    let rs = c.args.rules.now in
    let l = c.loop-rule in
    let i = l.rule-index in
    let r = c.rule-item.result in
    let lt : i < length rs = omega arith in
    let first = drop_first rs i r lt ∙ ap (λ x. x ∷ drop (i + 1) rs) (sym c.rule-item.is) in
    elim c.if-is_empty.branch [
      | then-is_empty w ↦ λ form. here_added (labels_of l.labels) rs i r first form
          (labels_of c.if-is_empty.labels)
          (place_here r.place.now ∙ sym c.is_empty.ensures ∙ w.if-is_empty.true)
          (ap labels_of w.labels-is ∙ w.add.ensures) ∙ l.invariant form
      | else-is_empty w ↦ λ form.
          ap (λ x. label_or (labels_of x form) (here (rules_of (drop (i + 1) rs)) form)) w.labels-is
          ∙ ap (label_or (labels_of l.labels form))
          (here_skipped (labels_of l.labels) rs i r first form
          (place_here r.place.now ∙ sym c.is_empty.ensures ∙ w.if-is_empty.false))
          ∙ l.invariant form
    ]

pub returns : goal.returns
returns c =
    let rs = c.args.rules.now in
    let l = c.loop-rule in
    let done : length rs ≤ l.rule-index = omega arith in
    labels_last (labels_of l.labels) (here (rules_of (drop l.rule-index rs))) (here (rules_of rs))
    (ap (λ ts. here (rules_of ts)) (drop_all l.rule-index rs done)) l.invariant
