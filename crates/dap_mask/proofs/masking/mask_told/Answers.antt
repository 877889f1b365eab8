use Rattle.std.proofs.Common.{ap, ap₂, ◌∙◌}
use Rattle.dap_tree.specs.View.{view}
use Rattle.dap_mask.specs.Index.{positions, masked_at}
use Rattle.dap_mask.specs.KeptRules.{changes_of}
use Rattle.dap_mask.proofs.Indexed.{masked_by_index}
use Rattle.dap_mask.proofs.masking.mask_told.Goals as goal

pub returns : goal.returns
returns c =
    let rules = changes_of c.args.rules.now in
    let d = view c.args.tree.now in
    c.mask_places.ensures
    ∙ ap₂ (λ rs is. masked_at rs is d) c.changes.ensures
    (c.places-found.ensures ∙ ap (λ n. positions c.args.kind n rules) c.told_name.ensures)
    ∙ masked_by_index rules d c.args.kind c.args.rules.now.list.safe c.requires
