-- The differences of two sessions, by their messages. Source: own.
use Rattle.std.specs.Prelude.{◌≡◌, List, Option}
use Rattle.dap_message.specs.Message.{Sent}
use Rattle.dap_rename.specs.{Messages.AreSame, Modes.stop_in, declared.mode.Mode.Mode}
use Rattle.dap_compare.specs.Sessions.{DifferFirstAt, IsNumbered}
use Rattle.dap_diff.specs.Diffs.{diff_lines}
use Rattle.dap_diff.specs.declared.all_differences.AllDifferences.{AllDifferences}
use Rattle.dap_diff.specs.declared.all_differences.AllDifferences.TheVariants as all
use Rattle.dap_diff.specs.declared.outcome.Diff.{Diff}
use Rattle.dap_diff.specs.declared.outcome.Diff.TheVariants.{Same, Differ}

-- The messages are the same; or they differ first at this record, and the lines are those for the
-- messages with this number in the normal forms.
abbrev pub IsDifferenceOn : Mode → List Sent → List Sent → Diff → Type 0
IsDifferenceOn mode of_a of_b Same = AreSame (stop_in mode) of_a of_b
IsDifferenceOn mode of_a of_b (Differ number lines) = DifferFirstAt mode of_a of_b number
    × (a : Option Sent) × (b : Option Sent) × IsNumbered mode of_a number a
    × IsNumbered mode of_b number b × (lines.items ≡ diff_lines a b)

-- The messages are the same or not.
abbrev pub AreDifferencesOn : Mode → List Sent → List Sent → AllDifferences → Type 0
AreDifferencesOn mode of_a of_b all.Same = AreSame (stop_in mode) of_a of_b
AreDifferencesOn mode of_a of_b (all.Differ lines) = AreSame (stop_in mode) of_a of_b → ⊥
