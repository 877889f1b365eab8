-- The error that `compare` returns for an input, and the records before the first one is read.
use Rattle.std.specs.Prelude.{◌≡◌, ℕ, ℤ, List, []}
use Rattle.dap_input.specs.declared.refused.Refused.{Refused}
use Rattle.dap_input.specs.declared.refused.Refused.TheVariants as why
use Rattle.dap_input.specs.declared.limits.Limits.{Limits}
use Rattle.dap_normalise.specs.{JudgingSteps.{judge_limits, judge_mode}, NormalSteps.RepresentsBefore}
use Rattle.dap_normalise.specs.declared.normal_records.NormalRecords.{NormalRecords}
use Rattle.dap_rename.specs.declared.mode.Mode.{Mode}
use Rattle.dap_compare.specs.declared.verdict.CompareRefused.{CompareRefused}
use Rattle.dap_compare.specs.declared.verdict.CompareRefused.TheVariants as because
use Rattle.dap_compare.specs.declared.verdict.Which.{Which}

-- The result is the error of this input. An allocation failure belongs to neither input.
abbrev pub IsRefusalOf : Which → Refused → CompareRefused → Type 0
IsRefusalOf which refused refusal = (refused ≡ why.Memory → refusal ≡ because.Memory)
    × ((refused ≡ why.Memory → ⊥) → refusal ≡ because.Input which refused)

-- ---- records from which nothing was read

-- The limits within which the records are checked, and the mode in which their ids are numbered.
abbrev pub limits_of : {T : Type 0} → NormalRecords T → Limits
limits_of records = judge_limits records.judge

abbrev pub mode_in : {T : Type 0} → NormalRecords T → Mode
mode_in records = judge_mode records.judge

-- Nothing was read, and the records are checked within these limits and in this mode.
abbrev pub AreUnread : {T : Type 0} → (T → List ℤ) → (T → ℕ) → Limits → Mode → NormalRecords T
    → Type 0
AreUnread numbers table_limit limits mode records =
    RepresentsBefore numbers table_limit limits mode [] records [] []
