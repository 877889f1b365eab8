use Rattle.std.proofs.Common.{add-one, ap, sym, subst}
use Rattle.std.proofs.lemmas.List.{drop_all}
use Rattle.std.specs.List.{AllByRecursion}
use Rattle.dap_mask.specs.Index.{AsksNot}
use Rattle.dap_mask.specs.Rules.{rules_of}
use Rattle.dap_mask.proofs.Indexed.{left_rules, nothing_kept}
use Rattle.dap_mask.proofs.index.places_by_name.Goals as goal

pub loop-rule-init : goal.loop-rule-init
loop-rule-init c = record {
  right = λ n places found.
      let none = nothing_kept c.new-names.result c.new-names.ensures.empty n in cc;
  asked = λ n none all. all;
}

pub loop-rule-preserved : goal.loop-rule-preserved
loop-rule-preserved c = record {
  right = c.in_ok-add_name.ensures.right c.loop-rule.invariant.right;
  asked = λ n none left.
      let was = c.in_ok-add_name.ensures.adds n none in
      c.loop-rule.invariant.asked n was.0
      (subst (λ rs. AllByRecursion (AsksNot c.args.kind n) rs)
      (sym (left_rules c.args.rules.now c.loop-rule.rule-index c.rule-item.result
      c.loop-rule-test.true c.rule-item.is))
      (was.1, rw add-one at left));
}

pub returns-clause-asked : goal.returns-clause-asked
returns-clause-asked c = λ n none.
    c.loop-rule.invariant.asked n none
    (subst (λ rs. AllByRecursion (AsksNot c.args.kind n) rs)
    (sym (ap rules_of (drop_all c.loop-rule.rule-index c.args.rules.now
    c.loop-rule-test.false)))
    tt)
