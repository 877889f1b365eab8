use Rattle.std.proofs.Common.{◌≡◌, drop}
use Rattle.dap_words.specs.Apart.{agree}
use Rattle.dap_words.proofs.apart.agree.Given as goal

abbrev pub invariant-loop-i : goal.invariant-loop-i
invariant-loop-i l = agree (drop l.i l.bytes) (drop l.i l.other) ≡ agree l.bytes l.other
