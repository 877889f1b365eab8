use Rattle.std.proofs.Common.{arith}
use Rattle.std.proofs.lemmas.Grind.{common_steps}
use Rattle.std.specs.Result.{is_ok}
use Rattle.dap_mask.specs.Declarations.{declaration_of, are_declared}
use Rattle.dap_mask.specs.ListedRules.{listed_mask, listed_declared}
use Rattle.dap_mask.proofs.RulesBehind.{pushed_declaration_keeps, declaration_kept}
use Rattle.dap_mask.proofs.RulesBehind.{declaration_may_stand}
use Rattle.dap_mask.proofs.rule_list.RuleList.take_declaration.Goals as goal

pub invariant_of-self : goal.invariant_of-self
invariant_of-self c =
    let old = c.args.self.now in
    let rule = declaration_of c.args.rule in
    let may = declaration_may_stand (listed_mask c.args.self.now) rule c.requires in
    record {
      few = grind (arith, common_steps);
      safe = old.safe;
      settled = old.settled;
      leave = old.leave;
      kept = old.kept;
      apart = old.apart;
      full = old.full;
      labelled = pushed_declaration_keeps (is_ok c.push.result) old.declared.items c.args.rule
          c.push.new.self.items c.push.ensures.items are_declared old.labelled
          (declaration_kept (listed_declared c.args.self.now) rule old.labelled may.0 may.1);
    }
