use Rattle.std.proofs.Common.{◌≡◌, ◌≤◌, ℕ}
use Rattle.std.specs.Prelude.{slice_index}
use Rattle.dap_order.specs.Progress.{ReleasedBelow}
use Rattle.dap_order.proofs.progress.Progress.release_all.Given as goal

abbrev pub invariant-loop-group : goal.invariant-loop-group
invariant-loop-group l = record {
  below : ReleasedBelow l.plan l.links l.fn.self l.self l.group;
  rest : (other : ℕ) → l.group ≤ other
      → slice_index l.self.released.items other ≡ slice_index l.fn.self.released.items other;
}
