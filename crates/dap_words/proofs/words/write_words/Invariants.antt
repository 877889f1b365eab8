use Rattle.std.proofs.Common.{◌≡◌, ◌≤◌, ◌-◌, ◌++◌, drop, take, length}
use Rattle.dap_words.specs.Words.{pairs_of, replaced}
use Rattle.dap_words.specs.Occurrences.{pairs_at, AreNext}
use Rattle.dap_words.proofs.words.write_words.Given as goal

-- the bytes written so far, and the result for the remaining bytes, are the result for the whole
-- text
abbrev pub invariant-loop-next : goal.invariant-loop-next
invariant-loop-next l = record {
  within : l.done ≤ length l.bytes;
  begun : take (length l.initial.out.items) l.out.items ≡ l.initial.out.items;
  next : AreNext l.bytes l.done l.occurrences.items;
  whole : l.out.items ++ replaced (pairs_at l.occurrences.items) (drop l.done l.bytes)
      ≡ l.initial.out.items ++ replaced (pairs_of l.words) l.bytes;
}

abbrev pub decreases-loop-next : goal.decreases-loop-next
decreases-loop-next l = length l.bytes - l.done
