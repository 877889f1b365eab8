use Rattle.std.proofs.Common.{◌≡◌, ℕ, ◌<◌, length, get_or}
use Rattle.dap_order.specs.Plan.{place_count, place_at_rank}
use Rattle.dap_order.proofs.links.ranks_of.Given as goal

abbrev pub invariant-loop-rank : goal.invariant-loop-rank
invariant-loop-rank l = record {
  len : length l.ranks.items ≡ place_count l.plan;
  found : (rank : ℕ) → rank < l.rank → get_or l.ranks.items (place_at_rank l.plan rank) 0 ≡ rank;
}
