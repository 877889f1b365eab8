use Rattle.std.proofs.Common.{arith, ◌∙◌}
use Rattle.dap_order.specs.Plan.{group_of}
use Rattle.dap_order.proofs.by_plan.order_of_places.Goals as goal

pub release_all-requires-clause-released : goal.release_all-requires-clause-released
release_all-requires-clause-released c =
    λ group low apart. absurd (apart (c.in_ok-progress.ensures.starts.released group))

pub places_written-requires-clause-represents : goal.places_written-requires-clause-represents
places_written-requires-clause-represents c = c.in_ok-release_all.ensures.represents

pub places_written-requires-clause-released : goal.places_written-requires-clause-released
places_written-requires-clause-released c = c.in_ok-release_all.ensures.done

pub places_written-requires-clause-listed : goal.places_written-requires-clause-listed
places_written-requires-clause-listed c =
    let starts = c.in_ok-progress.ensures.starts in
    λ place low. c.in_ok-release_all.ensures.listed place low
    (λ unwritten below followed. absurd
    (omega (arith, starts.released (group_of c.args.plan.now place))))

pub places_written-requires-clause-unwritten : goal.places_written-requires-clause-unwritten
places_written-requires-clause-unwritten c =
    c.in_ok-release_all.ensures.written ∙ c.in_ok-progress.ensures.starts.written
