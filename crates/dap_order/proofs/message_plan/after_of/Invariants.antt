use Rattle.std.proofs.Common.{◌≡◌, ℕ, ◌<◌, [], map, length, get_or}
use Rattle.dap_order.specs.Entries.{sent_by}
use Rattle.dap_order.specs.Waits.{Covers, are_tied}
use Rattle.dap_order.proofs.message_plan.after_of.Given as goal

abbrev pub invariant-loop-place : goal.invariant-loop-place
invariant-loop-place g l = record {
  len : length l.after.items ≡ l.place;
  covers : (place : ℕ) → place < l.place
      → Covers are_tied (map sent_by l.entries) place
      (get_or (map (λ row. row.items) l.after.items) place []);
}
