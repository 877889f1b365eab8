use Rattle.std.proofs.Common.{rules, ◌≡◌, ◌<◌, ◌≤◌, length, get_or, refl, sym, ◌∙◌}
use Rattle.dap_suggest.proofs.HiddenValues.{hidden_all, hidden_more, hidden_same}
use Rattle.dap_suggest.proofs.choosing.hidden_by.Goals as goal
use Rattle.dap_suggest.proofs.choosing.hidden_by.Goals.{then-applies, else-applies}

pub loop-place-preserved : goal.loop-place-preserved
loop-place-preserved c = λ values are.
    let before = c.args.before.now in
    let rule = c.args.rule.now in
    let tallies = c.args.spot.now.tallies.items in
    let i = c.loop-place.place in
    let t = c.tally-item.result in
    let so_far = c.loop-place.invariant values are in
    let below : i < length tallies = search rules in
    let tally : t ≡ get_or tallies i t = search rules in
    elim c.if-applies.branch [
      | then-applies w ↦ rw w.hidden-is
          (hidden_more before rule tallies values are i t w.effect-actions.result.0
          c.loop-place.hidden w.hidden.result w.saturating_add-hidden.result below tally
          (sym c.applies.ensures ∙ w.if-applies.true) (w.effect-actions.ensures refl)
          w.hidden.ensures w.saturating_add-hidden.ensures so_far)
      | else-applies w ↦ rw w.hidden-is
          (hidden_same before rule tallies values are i t c.loop-place.hidden below
          (sym c.applies.ensures ∙ w.if-applies.false) so_far)
    ]

pub returns : goal.returns
returns c = λ values are.
    let tallies = c.args.spot.now.tallies.items in
    let past : length tallies ≤ c.loop-place.place = search rules in
    hidden_all c.args.before.now c.args.rule.now tallies values are c.loop-place.place
    c.loop-place.hidden past (c.loop-place.invariant values are)
