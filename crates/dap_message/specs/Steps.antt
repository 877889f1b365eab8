-- The row paths that the steps of the program represent.
use Rattle.std.specs.Prelude.{List, map}
use Rattle.dap_profile.specs.PlaceSteps.{PlaceStep, named, each}
use Rattle.dap_message.specs.declared.marks.Step.{Step}
use Rattle.dap_message.specs.declared.marks.Step.TheVariants.{Name, Each}

-- The step that a step of the program represents.
abbrev pub step_of : Step → PlaceStep
step_of (Name a) = named a.now
step_of Each = each

-- The path that a list of them represents.
abbrev pub place_of : List Step → List PlaceStep
place_of steps = map step_of steps
