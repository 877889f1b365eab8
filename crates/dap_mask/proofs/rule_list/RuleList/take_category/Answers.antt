use Rattle.std.proofs.Common.{arith}
use Rattle.std.proofs.lemmas.Grind.{common_steps}
use Rattle.std.specs.Result.{is_ok}
use Rattle.dap_mask.specs.Categories.{category_of, keep_categories}
use Rattle.dap_mask.specs.ListedRules.{listed_mask, listed_changes, listed_categories}
use Rattle.dap_mask.proofs.RulesBehind.{pushed_category_keeps, category_kept, category_not_moved}
use Rattle.dap_mask.proofs.rule_list.RuleList.take_category.Goals as goal

pub invariant_of-self : goal.invariant_of-self
invariant_of-self c =
    let old = c.args.self.now in
    let changes = listed_changes c.args.self.now in
    let rule = category_of c.args.rule in
    record {
      few = grind (arith, common_steps);
      safe = old.safe;
      settled = old.settled;
      leave = old.leave;
      kept = pushed_category_keeps (is_ok c.push.result) old.categories.items c.args.rule
          c.push.new.self.items c.push.ensures.items (keep_categories changes) old.kept
          (category_kept changes (listed_categories c.args.self.now) rule old.kept
          (category_not_moved (listed_mask c.args.self.now) rule c.requires));
      apart = old.apart;
      full = old.full;
      labelled = old.labelled;
    }
