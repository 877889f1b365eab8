use Rattle.std.proofs.Common.{◌≡◌, drop}
use Rattle.dap_words.specs.Apart.{agree_from}
use Rattle.dap_words.proofs.apart.agree_from.Given as goal

abbrev pub invariant-loop-i : goal.invariant-loop-i
invariant-loop-i l = agree_from (drop l.i l.bytes) l.other ≡ agree_from l.bytes l.other
