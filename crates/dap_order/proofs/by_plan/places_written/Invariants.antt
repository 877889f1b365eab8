use Rattle.std.proofs.Common.{ℕ, ◌<◌, length}
use Rattle.dap_order.specs.Swaps.{Swaps, AreSwaps}
use Rattle.dap_order.specs.Plan.{IsPlan, place_count}
use Rattle.dap_order.specs.Progress.{Stands, IsReleased, IsListed}
use Rattle.dap_order.proofs.Pending.{pending}
use Rattle.dap_order.proofs.PlanOrder.{Goes}
use Rattle.dap_order.proofs.by_plan.places_written.Given as goal

abbrev pub invariant-loop-place : goal.invariant-loop-place
invariant-loop-place l = record {
  represents : Stands l.plan l.progress;
  released : (group : ℕ) → group < length l.plan.blocks.items → IsReleased l.plan l.progress group;
  listed : (place : ℕ) → place < place_count l.plan → IsListed l.plan l.links l.progress place;
  goes : (s : Swaps ℕ) → AreSwaps s → IsPlan s l.plan
      → Goes l.plan s l.places.items l.progress.written.items;
}

abbrev pub decreases-loop-place : goal.decreases-loop-place
decreases-loop-place l = length (pending l.progress.written.items)
