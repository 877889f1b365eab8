use Rattle.std.proofs.Common.{◌≡◌, ◌++◌, drop}
use Rattle.std.specs.List.{flat_map}
use Rattle.dap_difference.specs.Lines.{step_text}
use Rattle.dap_difference.specs.Shown.{path_of}
use Rattle.dap_difference.proofs.lines.push_steps.Given as goal

abbrev pub invariant-loop-step : goal.invariant-loop-step
invariant-loop-step l =
    l.out.items ++ flat_map step_text (path_of (drop l.step-index l.steps))
    ≡ l.initial.out.items ++ flat_map step_text (path_of l.steps)
