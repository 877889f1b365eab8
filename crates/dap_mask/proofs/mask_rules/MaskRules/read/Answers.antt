use Rattle.dap_mask.specs.ListedRules.{listed_mask}
use Rattle.dap_mask.specs.RulesFile.{rules_said}
use Rattle.dap_mask.proofs.Growths.{some_rules}
use Rattle.dap_mask.proofs.mask_rules.MaskRules.read.Goals as goal

pub returns-in-Err-clause-needed : goal.returns-in-Err-clause-needed
returns-in-Err-clause-needed c =
    λ _. some_rules (listed_mask c.in_ok-list.list) (rules_said c.args.text.now)
    c.in_ok-list.ensures.ok c.in-Err.ensures.memory
