use Rattle.std.proofs.Common.{◌≡◌, ℕ, ◌≤◌, drop}
use Rattle.std.specs.List.{AllWithin}
use Rattle.dap_words.specs.Occurrences.{pairs_at, IsNextOf, AreNext}
use Rattle.dap_words.proofs.occurrences.move_on.Given as goal

-- the occurrences before the index have moved on, and the remaining ones are unchanged
abbrev pub invariant-loop-occurrence : goal.invariant-loop-occurrence
invariant-loop-occurrence l = record {
  pairs : pairs_at l.occurrence-items ≡ pairs_at l.initial.occurrence-items;
  next : (earlier : ℕ) → earlier ≤ l.from → AreNext l.bytes earlier l.initial.occurrence-items
      → AllWithin (IsNextOf l.bytes l.from) l.occurrence-items 0 l.occurrence-index;
  rest : drop l.occurrence-index l.occurrence-items
      ≡ drop l.occurrence-index l.initial.occurrence-items;
}
