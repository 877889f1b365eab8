use Rattle.std.proofs.Common.{◌≡◌, ◌∙◌, ap, subst, arith}
use Rattle.std.proofs.lemmas.Grind.{common_steps}
use Rattle.std.specs.Prelude.{insert}
use Rattle.std.specs.Result.{is_ok}
use Rattle.dap_mask.specs.Ids.{leave_ids}
use Rattle.dap_mask.specs.Categories.{keep_categories, keep_output}
use Rattle.dap_mask.specs.ListedRules.{listed_mask, listed_changes, listed_categories}
use Rattle.dap_mask.specs.Fills.{keep_fills}
use Rattle.dap_mask.specs.ListedRules.{listed_joining, listed_fills}
use Rattle.dap_mask.specs.Rules.{rule_of, rules_of, inserted, are_safe, are_idempotent}
use Rattle.dap_mask.proofs.RulesBehind.{MayStand, change_may_stand, inserted_keeps, safe_inserted}
use Rattle.dap_mask.proofs.RulesBehind.{settled_inserted, leave_inserted, kept_inserted}
use Rattle.dap_mask.proofs.RulesBehind.{output_inserted, fills_inserted, rules_inserted}
use Rattle.dap_mask.proofs.rule_list.RuleList.take_change.Goals as goal

pub invariant_of-self : goal.invariant_of-self
invariant_of-self c =
    let old = c.args.self.now in
    let rules = listed_changes c.args.self.now in
    let rule = rule_of c.args.rule in
    let categories = listed_categories c.args.self.now in
    let joining = listed_joining c.args.self.now in
    let fills = listed_fills c.args.self.now in
    let may : MayStand (listed_mask c.args.self.now) rule =
    change_may_stand (listed_mask c.args.self.now) rule c.requires in
    let place = c.place_in-place.result in
    let is = subst (λ xs. insert (rules_of xs) place rule ≡ inserted rule (rules_of xs))
    c.deref.ensures.value c.place_in-place.ensures.place in
    let keeps = inserted_keeps (is_ok c.insert.result) old.changes.items place c.args.rule
    c.insert.new.self.items c.insert.ensures.items is in
    record {
      few = grind (arith, common_steps);
      safe = keeps are_safe old.safe (safe_inserted rules rule old.safe may.safe may.calm);
      settled = keeps are_idempotent old.settled
          (settled_inserted rules rule old.settled may.settled);
      leave = keeps leave_ids old.leave (leave_inserted rules rule old.leave may.leaves);
      kept = keeps (λ rs. keep_categories rs categories) old.kept
          (kept_inserted rules rule categories old.kept may.moves);
      apart = keeps (λ rs. keep_output rs joining) old.apart
          (output_inserted rules rule joining old.apart may.joins);
      full = keeps (λ rs. keep_fills rs fills) old.full
          (fills_inserted rules rule fills old.full may.fills);
      labelled = old.labelled;
    }

pub returns : goal.returns
returns c =
    let old = c.args.self.now in
    let rule = rule_of c.args.rule in
    let place = c.place_in-place.result in
    let is = subst (λ xs. insert (rules_of xs) place rule ≡ inserted rule (rules_of xs))
    c.deref.ensures.value c.place_in-place.ensures.place in
    ap (λ rs. record (listed_mask old) { changes = rs })
    (ap rules_of c.in_ok-insert.ensures.items
    ∙ rules_inserted old.changes.items place c.args.rule ∙ is)
