use Rattle.std.proofs.Common.{◌≡◌, drop}
use Rattle.dap_words.specs.Words.{pairs_of}
use Rattle.dap_words.specs.Apart.{is_met}
use Rattle.dap_words.proofs.apart.is_met.Given as goal

abbrev pub invariant-loop-other : goal.invariant-loop-other
invariant-loop-other l = is_met (pairs_of (drop l.other-index l.words)) l.text
    ≡ is_met (pairs_of l.words) l.text
