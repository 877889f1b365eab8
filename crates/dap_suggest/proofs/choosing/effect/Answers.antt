use Rattle.std.proofs.Common.{arith, sym, ◌∙◌}
use Rattle.std.proofs.lemmas.Grind.{common_steps}
use Rattle.dap_suggest.proofs.HiddenValues.{changes_more, changes_same}
use Rattle.dap_suggest.proofs.choosing.effect.Goals as goal
use Rattle.dap_suggest.proofs.choosing.effect.Goals.{then-applies+then-ne, else-applies}
use Rattle.dap_suggest.proofs.choosing.effect.Goals.{else-applies-via-then-applies+else-ne}
use Rattle.dap_suggest.proofs.choosing.effect.Goals.{else-applies-via-else-applies}

pub loop-index-preserved : goal.loop-index-preserved
loop-index-preserved c = λ none value.
    let i = c.loop-index.index in
    let before = c.loop-index.actions in
    let same = c.loop-index.invariant none value in
    elim c.if-applies.branch [
      | then-applies+then-ne w ↦ rw w.actions-is
          (changes_more c.args.rules.now i c.args.tally before value _ c.loop-index-test.true
          (sym c.applies.ensures ∙ w.if-applies.true) same)
      | else-applies w ↦ elim w.else-applies.branch [
        | else-applies-via-then-applies+else-ne not_left_out ↦ grind (arith, common_steps)
        | else-applies-via-else-applies other ↦ rw w.actions-is
            (changes_same c.args.rules.now i c.args.tally before value _ c.loop-index-test.true
            (sym c.applies.ensures ∙ other.if-applies.false) same)
      ]
    ]
