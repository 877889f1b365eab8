use Rattle.std.proofs.Common.{◌≡◌, drop}
use Rattle.dap_words.specs.Words.{pairs_of}
use Rattle.dap_words.specs.Apart.{meets_any}
use Rattle.dap_words.proofs.apart.meets_any.Given as goal

abbrev pub invariant-loop-other : goal.invariant-loop-other
invariant-loop-other l = meets_any (pairs_of (drop l.other-index l.words)) l.word
    ≡ meets_any (pairs_of l.words) l.word
