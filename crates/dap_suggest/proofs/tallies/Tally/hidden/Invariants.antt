use Rattle.std.proofs.Common.{◌≡◌, take}
use Rattle.dap_suggest.specs.Hidden.{capped, counted, is_hidden}
use Rattle.dap_suggest.proofs.tallies.Tally.hidden.Given as goal

abbrev pub invariant-loop-equal : goal.invariant-loop-equal
invariant-loop-equal l = l.hidden
    ≡ capped (counted (is_hidden l.actions l.others) (take l.equal-index l.self.equal.items))
