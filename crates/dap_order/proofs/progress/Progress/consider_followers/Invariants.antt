use Rattle.std.proofs.Common.{◌≡◌, ℕ, ◌<◌, ◌⊎◌, length}
use Rattle.std.specs.List.{Contains}
use Rattle.dap_order.specs.Plan.{place_count, followed_by}
use Rattle.dap_order.specs.Links.{IsBelow, HasFrom}
use Rattle.dap_order.specs.Progress.{Stands, HasRank, IsListed}
use Rattle.dap_order.proofs.Walking.{steps}
use Rattle.dap_order.proofs.progress.Progress.consider_followers.Given as goal

abbrev pub invariant-loop-next : goal.invariant-loop-next
invariant-loop-next l = record {
  represents : Stands l.plan l.self;
  written : l.self.written.items ≡ l.fn.self.written.items;
  released : l.self.released.items ≡ l.fn.self.released.items;
  kept : (rank : ℕ) → HasRank l.fn.self.ready rank → HasRank l.self.ready rank;
  next : IsBelow (length l.links.cells.items) l.next;
  listed : (other : ℕ) → other < place_count l.plan → Contains (followed_by l.plan other) l.place
      → IsListed l.plan l.links l.self other ⊎ HasFrom l.links.cells.items other l.next;
}

abbrev pub decreases-loop-next : goal.decreases-loop-next
decreases-loop-next l = steps l.next
