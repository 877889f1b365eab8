-- The model of a difference.
use Rattle.std.specs.Prelude.{List, map, Option, Some, None}
use Rattle.dap_tree.specs.Doc.{Doc}
use Rattle.dap_tree.specs.Path.{Step, name, place}
use Rattle.dap_tree.specs.View.{view}
use Rattle.dap_difference.specs.Differences.{Difference}
use Rattle.dap_difference.specs.declared.difference.Step.{Step as CodeStep}
use Rattle.dap_difference.specs.declared.difference.Step.TheVariants.{Member, Item}
use Rattle.dap_difference.specs.declared.difference.Values.{Values}
use Rattle.dap_difference.specs.declared.difference.Values.TheVariants.{OnlyA, OnlyB, Both}
use Rattle.dap_difference.specs.declared.difference.Difference.{Difference as CodeDifference}

abbrev pub step_of : CodeStep → Step
step_of (Member s) = name s.now
step_of (Item n) = place n

abbrev pub path_of : List CodeStep → List Step
path_of steps = map step_of steps

-- The values of A and of B at the path.
abbrev pub value_of_a : Values → Option Doc
value_of_a (OnlyA t) = Some (view t.now)
value_of_a (OnlyB t) = None
value_of_a (Both t u) = Some (view t.now)

abbrev pub value_of_b : Values → Option Doc
value_of_b (OnlyA t) = None
value_of_b (OnlyB t) = Some (view t.now)
value_of_b (Both t u) = Some (view u.now)

abbrev pub at_path : List CodeStep → Values → Difference
at_path steps values =
    record { path = path_of steps; of_a = value_of_a values; of_b = value_of_b values }

abbrev pub difference_of : CodeDifference → Difference
difference_of x = at_path x.path.items x.values

abbrev pub shown_differences : List CodeDifference → List Difference
shown_differences xs = map difference_of xs
