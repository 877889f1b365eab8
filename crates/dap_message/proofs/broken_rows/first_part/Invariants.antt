use Rattle.dap_tree.specs.View.{view}
use Rattle.std.proofs.Common.{◌≡◌, drop, map, [], ◌∷◌}
use Rattle.dap_profile.specs.PlaceSteps.{named}
use Rattle.dap_message.specs.FirstBreak.{first_against, found_in}
use Rattle.dap_message.proofs.broken_rows.first_part.Given as goal

abbrev pub invariant-loop-index : goal.invariant-loop-index
invariant-loop-index l =
    first_against l.row.want l.row.needed (found_in (named l.name ∷ []) 0 (map view l.elements))
    ≡ first_against l.row.want l.row.needed
    (found_in (named l.name ∷ []) l.index (map view (drop l.index l.elements)))
