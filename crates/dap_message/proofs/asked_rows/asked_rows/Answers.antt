use Rattle.dap_tree.specs.View.{view}
use Rattle.std.proofs.Common.{◌∙◌, sym, ap, Some}
use Rattle.dap_profile.specs.RowRanges.{rows_asked}
use Rattle.dap_message.proofs.AskedRows.{asked-rows, any_name}
use Rattle.dap_message.proofs.asked_rows.asked_rows.Goals as goal

pub returns : goal.returns
returns c =
    let d = view c.args.tree.now in
    c.rows_of.ensures ∙ ap (rows_asked (Some c.args.kind)) c.name_of.ensures
    ∙ ap (λ k. rows_asked k (any_name k d)) (sym c.requires)
    ∙ sym (asked-rows d)
