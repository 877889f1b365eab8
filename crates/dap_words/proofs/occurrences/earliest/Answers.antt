use Rattle.std.proofs.Common.{sym, ◌∙◌}
use Rattle.dap_words.proofs.NextPlaces.{earliest_none}
use Rattle.dap_words.proofs.OccurrenceSteps.{taken, left}
use Rattle.dap_words.proofs.occurrences.earliest.Goals as goal
use Rattle.dap_words.proofs.occurrences.earliest.Goals.{then-comes_before, else-comes_before}

pub loop-occurrence-init : goal.loop-occurrence-init
loop-occurrence-init c = λ from within next. earliest_none c.args.bytes.now from within

pub loop-occurrence-preserved : goal.loop-occurrence-preserved
loop-occurrence-preserved c = λ from within next.
    let l = c.loop-occurrence in
    let os = c.args.occurrences.now in
    let s = c.args.bytes.now in
    let o = c.occurrence-item.result in
    let is = l.invariant from within next in
    elim c.if-comes_before.branch [
      | then-comes_before w ↦ rw w.best-is (taken os s from l.occurrence-index o l.best
          c.loop-occurrence-test.true c.occurrence-item.is next is
          (sym c.comes_before.ensures ∙ w.if-comes_before.true))
      | else-comes_before w ↦ rw w.best-is (left os s from l.occurrence-index o l.best
          c.loop-occurrence-test.true c.occurrence-item.is next is
          (sym c.comes_before.ensures ∙ w.if-comes_before.false))
    ]
