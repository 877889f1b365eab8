use Rattle.std.proofs.Common.{◌∙◌, sym, ap, ap₂, subst}
use Rattle.std.proofs.lemmas.Result.{on_ok_weaker}
use Rattle.dap_flat.specs.Pieces.{pieces}
use Rattle.dap_flat_message.specs.Marking.{Replaced}
use Rattle.dap_mask.specs.FlatMasking.{asked_category, changed_at}
use Rattle.dap_mask.specs.Index.{positions}
use Rattle.dap_mask.specs.KeptRules.{changes_of}
use Rattle.dap_mask.specs.Rules.{rules_of}
use Rattle.dap_mask.proofs.Indexed.{changed_by_index}
use Rattle.dap_mask.proofs.flat_masking.mask_told.Goals as goal

pub returns : goal.returns
returns c =
    let rules = changes_of c.args.rules.now in
    let kind = c.args.kind in
    on_ok_weaker c.change_places.result
    (λ edits d h.
    let found = c.places-found.ensures
    ∙ ap (λ n. positions kind n rules) (c.in_ok-name.ensures d h) in
    subst
    (λ e. Replaced c.args.nodes.now c.change_places.new.nodes 0 (pieces d) (pieces e))
    (ap (λ t. changed_at t (rules_of c.changes-changes.result.now) c.places-found.result.now d)
    (c.in_ok-category.ensures d h)
    ∙ ap₂ (λ rs is. changed_at (asked_category rs is d) rs is d) c.changes-changes.ensures found
    ∙ changed_by_index rules d kind c.args.rules.now.list.safe (sym (c.requires d h)))
    (edits d h))
    c.change_places.ensures
