use Rattle.std.proofs.Common.{◌∙◌, sym, true≢false}
use Rattle.dap_golden.proofs.GoldenTexts.{golden}
use Rattle.dap_golden.proofs.golden.golden_of.Goals as goal
use Rattle.dap_golden.proofs.golden.golden_of.Goals.{else-not-allow_open-via-else-not-allow_open}
use Rattle.dap_golden.proofs.golden.golden_of.Goals.{else-not-allow_open-via-then-not-allow_open+else-not-are_answered}

pub returns-clause-ok : goal.returns-clause-ok
returns-clause-ok c =
    golden c.args.allow_open c.args.session c.if-counts-eq0.false
    (elim c.else-not-allow_open.branch [
      | else-not-allow_open-via-then-not-allow_open+else-not-are_answered w ↦ λ not_allowed.
          w.are_answered.ensures.0 w.if-not-are_answered.false
      | else-not-allow_open-via-else-not-allow_open w ↦ λ not_allowed.
          absurd (true≢false (sym w.if-not-allow_open.false ∙ not_allowed))
    ])
