-- What the program prints and reports of two readers. Source: own.
use Rattle.std.specs.Prelude.{ℕ}
use Rattle.dap_compare.specs.{Verdicts.Compares, Which.compare_refused_text}
use Rattle.dap_input.specs.declared.limits.Limits.{Limits}
use Rattle.dap_rename.specs.declared.mode.Mode.{Mode}
use Rattle.dap_device.specs.Devices.{Read, Written}
use Rattle.dapnorm.specs.Answers.{verdict_status, verdict_text}
use Rattle.dapnorm.specs.Reporting.{ResultIsReported, refusal_status}

-- The verdict on these readers is printed, or an error is reported.
abbrev pub CompareIsReported : {R S W E : Type 0} → Limits → Mode → Read R → Read S → Written W
    → Written E → ℕ → Type 0
CompareIsReported limits mode a b output errors = ResultIsReported output.sink errors.sink
    (verdict_text mode) verdict_status compare_refused_text refusal_status
    (Compares a.source b.source limits mode a.old a.new b.old b.new) output.old output.new errors.old
    errors.new
