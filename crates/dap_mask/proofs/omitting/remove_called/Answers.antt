use Rattle.std.proofs.Common.{rules, ◌∙◌, ap}
use Rattle.std.proofs.lemmas.Fn.{filter_same}
use Rattle.dap_tree.specs.View.{items_view}
use Rattle.dap_mask.proofs.OmittedItems.{is_kept, kept_items}
use Rattle.dap_mask.proofs.omitting.remove_called.Goals as goal

pub returns : goal.returns
returns c =
    ap items_view (filter_same _ (is_kept c.args.name.now) _ (λ x b f' k. search rules) _ _
    c.retain.ensures.filtered)
    ∙ kept_items c.args.name.now c.args.items.now.items
