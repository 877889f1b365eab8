use Rattle.std.proofs.Common.{◌≡◌, ◌≢◌, ℕ, ◌<◌}
use Rattle.std.specs.Prelude.{slice_index}
use Rattle.dap_order.specs.Plan.{place_count}
use Rattle.dap_order.specs.Progress.{Stands, IsListed}
use Rattle.dap_order.proofs.progress.Progress.release.Given as goal

abbrev pub invariant-loop-place : goal.invariant-loop-place
invariant-loop-place l = record {
  represents : Stands l.plan l.self;
  written : l.self.written.items ≡ l.fn.self.written.items;
  others : (other : ℕ) → other ≢ l.group
      → slice_index l.self.released.items other ≡ slice_index l.fn.self.released.items other;
  here : slice_index l.self.released.items l.group ≡ l.place;
  listed : (place : ℕ) → place < place_count l.plan → IsListed l.plan l.links l.fn.self place
      → IsListed l.plan l.links l.self place;
}
