use Rattle.std.proofs.Common.{◌∙◌}
use Rattle.dap_flat_message.specs.Heads.{text_in}
use Rattle.dap_mask.specs.KeptRules.{categories_of_mask, dropped_of}
use Rattle.dap_mask.proofs.FlatTold.{event_told}
use Rattle.dap_mask.proofs.flat_told.is_event_dropped.Goals as goal

pub returns : goal.returns
returns c d h =
    c.drops_event.ensures
    ∙ event_told (dropped_of c.args.rules.now) (categories_of_mask c.args.rules.now)
    (text_in c.in_ok-name.name) (text_in c.in_ok-category.category) d (c.in_ok-name.ensures d h)
    (c.in_ok-category.ensures d h)
