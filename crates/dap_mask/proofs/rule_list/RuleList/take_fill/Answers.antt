use Rattle.std.proofs.Common.{arith}
use Rattle.std.proofs.lemmas.Grind.{common_steps}
use Rattle.std.specs.Result.{is_ok}
use Rattle.dap_mask.specs.Fills.{fill_of, keep_fills}
use Rattle.dap_mask.specs.ListedRules.{listed_mask, listed_changes, listed_fills}
use Rattle.dap_mask.proofs.RulesBehind.{pushed_fill_keeps, fill_kept, fill_may_stand}
use Rattle.dap_mask.proofs.rule_list.RuleList.take_fill.Goals as goal

pub invariant_of-self : goal.invariant_of-self
invariant_of-self c =
    let old = c.args.self.now in
    let changes = listed_changes c.args.self.now in
    let rule = fill_of c.args.rule in
    let may = fill_may_stand (listed_mask c.args.self.now) rule c.requires in
    record {
      few = grind (arith, common_steps);
      safe = old.safe;
      settled = old.settled;
      leave = old.leave;
      kept = old.kept;
      apart = old.apart;
      full = pushed_fill_keeps (is_ok c.push.result) old.fills.items c.args.rule
          c.push.new.self.items c.push.ensures.items (keep_fills changes) old.full
          (fill_kept changes (listed_fills c.args.self.now) rule old.full may.0 may.1);
      labelled = old.labelled;
    }
