use Rattle.std.proofs.Common.{◌≡◌, ℕ, suc, ◌-◌, List, Some, option_map, sym, ap, ◌∙◌, refl, arith}
use Rattle.dap_mask.specs.RuleSteps.{RuleStep}
use Rattle.dap_mask.specs.RuleText.{next_step, steps_from}
use Rattle.dap_mask.specs.Rules.{step_of, place_of}
use Rattle.dap_mask.proofs.Lines.{with_steps, steps_on}
use Rattle.dap_mask.proofs.places.place_at.Goals as goal

pub loop-left-preserved : goal.loop-left-preserved
loop-left-preserved c =
    let l = c.loop-left in
    let step = c.in-Some-2.step in
    let behind = c.in-Some-2.behind.now in
    let p : RuleStep × List ℕ = (step_of step, behind) in
    let next : next_step l.rest.now ≡ Some p =
    sym (rw c.in-Some-2.is at c.in_ok-step.ensures) in
    let left : l.left ≡ suc (l.left - 1) = omega arith in
    ap (λ ss. option_map (with_steps (place_of ss)) (steps_from (l.left - 1) behind))
    c.in_ok-push-in-Some-2.ensures.items
    ∙ steps_on l.steps.items step (l.left - 1) l.rest.now behind p next refl refl
    ∙ ap (λ n. option_map (with_steps (place_of l.steps.items)) (steps_from n l.rest.now))
    (sym left)
    ∙ l.invariant
