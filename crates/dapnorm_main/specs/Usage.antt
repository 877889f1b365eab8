-- The status of the program for arguments that request nothing that can be done. Source: own.
use Rattle.std.specs.Prelude.{◌≡◌, ◌⊎◌, ℕ}
use Rattle.dap_commands.specs.declared.commands.UsageFault.{UsageFault}
use Rattle.dap_commands.specs.declared.commands.UsageFault.TheVariants as usage

-- Help is printed with success, or the writer fails. An error of the user has the status 3, and a
-- failed allocation 5.
abbrev pub IsUsageStatus : UsageFault → ℕ → Type 0
IsUsageStatus (usage.Help text) status = (status ≡ 0) ⊎ (status ≡ 4)
IsUsageStatus (usage.Usage text) status = status ≡ 3
IsUsageStatus usage.Memory status = status ≡ 5
