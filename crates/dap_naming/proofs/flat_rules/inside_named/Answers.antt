use Rattle.std.proofs.Common.{◌+◌, ◌<◌, ◌≤◌, ◌∷◌, ◌++◌, length, drop, ap, sym, ◌∙◌, arith}
use Rattle.std.proofs.Common.{append-nil}
use Rattle.std.proofs.lemmas.List.{drop_all}
use Rattle.dap_flat_message.specs.Heads.{text_in}
use Rattle.dap_naming.specs.DeclaredRules.{declared_of, rules_of, with_place}
use Rattle.dap_naming.specs.Flat.{is_to_named}
use Rattle.dap_naming.proofs.Choosing.{left_by, left_step, drop_first}
use Rattle.dap_naming.proofs.FlatRules.{named-left}
use Rattle.dap_naming.proofs.flat_rules.inside_named.Goals as goal

pub loop-rule-preserved : goal.loop-rule-preserved
loop-rule-preserved c =
    let rs = c.args.rules.now in
    let i = c.loop-rule.rule-index in
    let r = c.rule-item.result in
    let lt : i < length rs = omega arith in
    left_step (is_to_named (text_in c.args.name)) rs i r (rules_of c.loop-rule.left.items)
    (rules_of c.add.new.left.items)
    (drop_first rs i r lt ∙ ap (λ x. x ∷ drop (i + 1) rs) (sym c.rule-item.is))
    (c.in_ok-add.ensures
    ∙ ap (λ o. rules_of c.loop-rule.left.items ++ with_place (declared_of r) o)
    c.after_named.ensures)
    ∙ c.loop-rule.invariant

pub returns : goal.returns
returns c =
    let rs = c.args.rules.now in
    let t = text_in c.args.name in
    let done : length rs ≤ c.loop-rule.rule-index = omega arith in
    sym (append-nil (rules_of c.loop-rule.left.items))
    ∙ ap (λ ts. rules_of c.loop-rule.left.items ++ left_by (is_to_named t) (rules_of ts))
    (sym (drop_all c.loop-rule.rule-index rs done))
    ∙ c.loop-rule.invariant ∙ sym (named-left t (rules_of rs))
