-- The errors whose explanations are empty. Source: own.
use Rattle.dap_explain.specs.Unexplained.{IsFailure}
use Rattle.dap_golden.specs.declared.fault.GoldenRefused.{GoldenRefused}
use Rattle.dap_golden.specs.declared.fault.GoldenRefused.TheVariants as golden
use Rattle.dap_rules.specs.declared.fault.ApplyRefused.{ApplyRefused}
use Rattle.dap_rules.specs.declared.fault.ApplyRefused.TheVariants as rules

-- The rules were not applied because a reader, a writer or an allocation failed.
abbrev pub IsApplyFailure : ApplyRefused → Type 0
IsApplyFailure (rules.Mask refused) = IsFailure refused
IsApplyFailure (rules.Order refused) = IsFailure refused
IsApplyFailure rules.ReadFault = Unit {0}
IsApplyFailure rules.Memory = Unit {0}

-- The golden text was not made: a reader, a writer or an allocation failed, or the session is
-- empty.
abbrev pub IsGoldenFailure : GoldenRefused → Type 0
IsGoldenFailure (golden.Trace refused) = IsFailure refused
IsGoldenFailure (golden.Mask refused) = IsFailure refused
IsGoldenFailure (golden.Session refused) = IsFailure refused
IsGoldenFailure golden.NoRecords = Unit {0}
IsGoldenFailure golden.Memory = Unit {0}
