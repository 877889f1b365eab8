use Rattle.std.proofs.Common.{◌≡◌, drop}
use Rattle.dap_words.specs.Words.{pairs_of, is_text_among}
use Rattle.dap_words.proofs.apart.is_text_among.Given as goal

abbrev pub invariant-loop-other : goal.invariant-loop-other
invariant-loop-other l = is_text_among l.text (pairs_of (drop l.other-index l.words))
    ≡ is_text_among l.text (pairs_of l.words)
