use Rattle.std.proofs.Common.{◌≡◌, ℕ, drop, take}
use Rattle.dap_words.specs.Words.{pairs_of, found}
use Rattle.dap_words.specs.Occurrences.{pairs_at, AreNext}
use Rattle.dap_words.proofs.occurrences.first_occurrences.Given as goal

-- at each place, the occurrences find what the words so far do
abbrev pub invariant-loop-word : goal.invariant-loop-word
invariant-loop-word l = record {
  next : AreNext l.bytes 0 l.occurrences.items;
  same : (k : ℕ) → found (pairs_of (take l.word-index l.words)) (drop k l.bytes)
      ≡ found (pairs_at l.occurrences.items) (drop k l.bytes);
}
