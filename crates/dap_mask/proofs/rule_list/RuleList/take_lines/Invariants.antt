use Rattle.std.proofs.Common.{◌≡◌, ◌+◌, ◌≤◌, length}
use Rattle.dap_mask.specs.ListedRules.{listed_mask}
use Rattle.dap_mask.specs.Mask.{rule_count}
use Rattle.dap_mask.specs.RulesFile.{rules_from}
use Rattle.dap_mask.specs.Runs.{lines_of}
use Rattle.dap_mask.proofs.rule_list.RuleList.take_lines.Given as goal

-- the remaining lines after the lines so far have the meaning of all lines
abbrev pub invariant-loop-cause : goal.invariant-loop-cause
invariant-loop-cause l = record {
  small : l.number + length l.rest ≤ 65537;
  same : rules_from (listed_mask l.self) l.number (lines_of l.rest)
      ≡ rules_from (listed_mask l.initial.self) 1 (lines_of l.text);
  grown : rule_count (listed_mask l.initial.self) ≤ rule_count (listed_mask l.self);
}

abbrev pub decreases-loop-cause : goal.decreases-loop-cause
decreases-loop-cause l = length l.rest
