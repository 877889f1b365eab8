use Rattle.std.proofs.Common.{◌∙◌, ◌&&◌, ◌||◌, sym, ap}
use Rattle.std.proofs.lemmas.Result.{IfOk-weaker}
use Rattle.dap_mask.specs.Categories.{is_dropped_by}
use Rattle.dap_mask.specs.FlatMasking.{IsTold}
use Rattle.dap_mask.specs.KeptRules.{categories_of_mask, dropped_of, mask_of}
use Rattle.dap_mask.specs.Mask.{leaves_out}
use Rattle.dap_mask.specs.Rules.{is_event_of}
use Rattle.dap_mask.proofs.flat_told.is_dropped.Goals as goal

pub returns-then-event : goal.returns-then-event
returns-then-event c =
    let ns = c.args.nodes.now in
    let rules = c.args.rules.now in
    IfOk-weaker c.is_event_dropped.result
    (IsTold ns 0
    (λ d. is_event_of (dropped_of rules) d || is_dropped_by (categories_of_mask rules) d))
    (IsTold ns 0 (leaves_out (mask_of rules)))
    (λ b told d h. told d h
    ∙ ap (λ e. e && (is_event_of (dropped_of rules) d
    || is_dropped_by (categories_of_mask rules) d)) (sym c.if-event.true ∙ c.in_ok-event.ensures d h))
    c.is_event_dropped.ensures

pub returns-else-event : goal.returns-else-event
returns-else-event c d h =
    let rules = c.args.rules.now in
    ap (λ e. e && (is_event_of (dropped_of rules) d || is_dropped_by (categories_of_mask rules) d))
    (sym c.if-event.false ∙ c.in_ok-event.ensures d h)
