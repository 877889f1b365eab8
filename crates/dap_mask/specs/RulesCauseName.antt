-- The names of the errors of rules, as they are written. Source: own.
use Rattle.std.specs.Prelude.{ℕ, List, codes}
use Rattle.dap_mask.specs.declared.fault.RulesCause.{RulesCause}
use Rattle.dap_mask.specs.declared.fault.RulesCause.TheVariants as cause

abbrev pub rules_cause_name : RulesCause → List ℕ
rules_cause_name cause.TooLong = codes "TooLong"
rules_cause_name cause.NotUtf8 = codes "NotUtf8"
rules_cause_name cause.BadRule = codes "BadRule"
rules_cause_name cause.TooMany = codes "TooMany"
rules_cause_name cause.BadPlace = codes "BadPlace"
rules_cause_name cause.Repeated = codes "Repeated"
rules_cause_name cause.Clash = codes "Clash"
rules_cause_name cause.BadWord = codes "BadWord"
rules_cause_name cause.BadLabel = codes "BadLabel"
rules_cause_name cause.Memory = codes "Memory"
