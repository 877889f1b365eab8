use Rattle.std.proofs.Common.{ℕ, ◌≤◌, length, take}
use Rattle.dap_words.specs.Occurrences.{pairs_at, AreNext, IsEarliest}
use Rattle.dap_words.proofs.occurrences.earliest.Given as goal

-- the best so far is the earliest of those so far
abbrev pub invariant-loop-occurrence : goal.invariant-loop-occurrence
invariant-loop-occurrence l =
    (from : ℕ) → from ≤ length l.bytes → AreNext l.bytes from l.occurrences
    → IsEarliest (pairs_at (take l.occurrence-index l.occurrences)) l.bytes from l.best
