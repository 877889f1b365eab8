-- The model of the steps of a row's place.
use Rattle.std.specs.Prelude.{List, map}
use Rattle.dap_profile.specs.PlaceSteps.{PlaceStep, named, each}
use Rattle.dap_mask.specs.declared.profile_ids.RowStep.{RowStep}
use Rattle.dap_mask.specs.declared.profile_ids.RowStep.TheVariants.{Member, Each}

-- The model of a step.
abbrev pub row_step_of : RowStep → PlaceStep
row_step_of (Member a) = named a.now
row_step_of Each = each

abbrev pub row_place_of : List RowStep → List PlaceStep
row_place_of steps = map row_step_of steps
