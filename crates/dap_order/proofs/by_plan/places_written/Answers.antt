use Rattle.std.proofs.Common.{◌≡◌, ◌<◌, true, length, set, arith, sym, ◌∙◌, subst}
use Rattle.dap_order.proofs.Pending.{pending, pending_fewer}
use Rattle.dap_order.proofs.PlanOrder.{Goes, goes-none, goes_more, goes_all, listed_after}
use Rattle.dap_order.proofs.Standing.{released_but}
use Rattle.dap_order.proofs.by_plan.places_written.Goals as goal

pub loop-place-init : goal.loop-place-init
loop-place-init c =
    let plan = c.args.plan.now in
    let r = c.requires in
    record {
      represents = r.represents;
      released = r.released;
      listed = r.listed;
      goes = λ s are is. subst (λ xs. Goes plan s xs c.args.progress.now.written.items)
          (sym c.new-places.ensures.items)
          (goes-none plan r.well_formed s are is c.args.progress.now.written.items r.unwritten);
    }

pub release_all-requires-clause-released : goal.release_all-requires-clause-released
release_all-requires-clause-released c =
    let wrote = c.in-Some.ensures in
    let considered = c.in_ok-consider_followers.ensures in
    released_but c.args.plan.now c.loop-place.progress c.consider_followers.new.self c.in-Some.place
    (considered.released ∙ wrote.released) (considered.written ∙ wrote.written)
    c.loop-place.invariant.released

pub loop-place-smaller : goal.loop-place-smaller
loop-place-smaller c =
    let wrote = c.in-Some.ensures in
    let old = c.loop-place.progress.written.items in
    let new = c.release_all.new.self.written.items in
    let e : new ≡ set old c.in-Some.place true =
    c.in_ok-release_all.ensures.written ∙ c.in_ok-consider_followers.ensures.written ∙ wrote.written
    in
    subst (λ w. length (pending w) < length (pending old)) (sym e)
    (pending_fewer old c.in-Some.place
    (omega (arith, wrote.was_ready.in_range, c.loop-place.invariant.represents.written_len))
    wrote.was_ready.not_written)

pub loop-place-preserved : goal.loop-place-preserved
loop-place-preserved c =
    let plan = c.args.plan.now in
    let links = c.args.links.now in
    let so_far = c.loop-place.invariant in
    let wrote = c.in-Some.ensures in
    let considered = c.in_ok-consider_followers.ensures in
    let freed = c.in_ok-release_all.ensures in
    let old = c.loop-place.progress in
    let mid = c.write_next.new.self in
    let place = c.in-Some.place in
    record {
      represents = freed.represents;
      released = freed.done;
      listed = λ other low. listed_after plan links c.requires.links old mid
          c.consider_followers.new.self c.release_all.new.self place wrote considered freed other
          low (so_far.listed other low);
      goes = λ s are is. subst (λ w. Goes plan s c.push.new.self.items w)
          (sym (freed.written ∙ considered.written))
          (subst (λ xs. Goes plan s xs mid.written.items) (sym c.in_ok-push.ensures.items)
          (goes_more plan c.requires.well_formed s are is links c.requires.links old mid
          c.loop-place.places.items place (so_far.goes s are is) so_far.represents.written_len
          so_far.released so_far.listed wrote));
    }

pub returns : goal.returns
returns c s are is =
    let so_far = c.loop-place.invariant in
    goes_all c.args.plan.now c.requires.well_formed s are is c.args.links.now c.loop-place.progress
    c.loop-place.places.items (so_far.goes s are is) so_far.represents.written_len so_far.released
    so_far.listed c.in_default.ensures
